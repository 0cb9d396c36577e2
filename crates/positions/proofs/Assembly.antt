-- The position of a sequence from what code finds: how many sequences stand in the blocks before its own, the index of its composition,
-- its intermediate bits and the index of its word.
use Prim.Native.Nat.{ℕ, ◌+◌, ◌-◌, ◌*◌, ◌%◌, ◌^◌, ◌≤◌, ◌<◌}
use native.Mathlib.Nat.{add_assoc}
use native.Mathlib.Omega.{arith}
use mathlib.Core.Path.{◌≡◌, sym, ◌∙◌}
use mathlib.Core.Bool.{true}
use mathlib.Core.List.{List, map}
use lib.ListN.{length, length-map}
use lib.Pow.{pow_mono, shl_lt, shl_exact}
use Rattle.loops.specs.Loops.{numbers, each}
use Rattle.loops.proofs.Loops.{before}
use Rattle.poly.specs.Code.{degree}
use Rattle.pairs.specs.Words.{s10, leads, words, words_from}
use Rattle.pairs.specs.Sequences.{bits, compositions, block, sequences}
use Rattle.positions.specs.Ranking.{StandsAt, last_letters, Parts}
use Rattle.pairs.proofs.Valid.{Valid}
use Rattle.pairs.proofs.Words.{count, length_words}
use Rattle.pairs.proofs.Compositions.{listed_compositions}
use Rattle.pairs.proofs.Quotients.{Parts as Known, quotients_parts, bits_total}
use Rattle.pairs.proofs.Blocks.{block_size, block_rank}
use Rattle.pairs.proofs.Sequences.{sequence_rank, sequence_rank_lt}
use Rattle.pairs.proofs.Sizes.{parts_lt}
use Rattle.positions.proofs.Preceding.{length_before, sequences_lt}
use Rattle.positions.proofs.Ranking.{word_rank_lem, composition_rank_lem, sequence_stands, length_digits}

module _ {n k : ℕ} {qs : List ℕ} (valid : Valid n qs) (long : length qs ≡ k) where
  -- ---- bits and word that give the quotients back are those of the sequence
  module _ {b y : ℕ} (read : Parts qs b y) where
    known : Known (map (degree 2) qs) b (last_letters k y) qs
    known =
        rw (rw long at read.give) at (quotients_parts (map (degree 2) qs) b (last_letters k y) valid.positive read.fit
        (length_digits k y ∙ sym (length-map qs (degree 2) ∙ long)))

    pub word_leads : leads s10 (last_letters k y) ≡ true
    word_leads = rw known.word at valid.word

    module _ (small : n < 32) {c : ℕ} (composition : StandsAt (compositions n k) c (map (degree 2) qs)) where
      composition_lt : c < 2 ^ 31
      composition_lt = omega (arith, rw (listed_compositions n k).long at composition.below, parts_lt n k small)

      shifted : c * 2 ^ (n - k) % 2 ^ 64 ≡ c * 2 ^ (n - k)
      shifted = shl_exact 31 (n - k) 64 composition_lt (omega arith)

      pub place_lt : c * 2 ^ (n - k) % 2 ^ 64 + b < 2 ^ 63
      place_lt =
          let small_bits : bits (map (degree 2) qs) ≤ n = omega (arith, bits_total (map (degree 2) qs) valid.positive, valid.total) in
          rw shifted
          (omega (
            arith,
            shl_lt 31 (n - k) composition_lt,
            pow_mono {i = 31 + (n - k)} {j = 62} (omega arith),
            read.fit,
            pow_mono {i = bits (map (degree 2) qs)} {j = 31} (omega arith),
          ))

      module _ {size v w : ℕ} (sized : size ≡ length (each (numbers 2 (k - 2)) (block n)))
          (word : StandsAt (words_from s10 k) v (last_letters k y)) (counted : w ≡ length (words k)) where
        position_is : size + (c * 2 ^ (n - k) % 2 ^ 64 + b) * w + v ≡ sequence_rank n qs
        unfolding sequence_rank block_rank
        position_is =
            rw (
              shifted,
              sized,
              length_before,
              counted,
              length_words s10 k,
              long,
              composition_rank_lem n k c (map (degree 2) qs) composition,
              known.between,
              known.word,
              word_rank_lem s10 k v (last_letters k y) word,
            )
            (add_assoc (before (block_size n) 2 (k - 2)) ((c * 2 ^ (n - k) + b) * count s10 k) v)

        pub position_lt : size + (c * 2 ^ (n - k) % 2 ^ 64 + b) * w + v < 2 ^ 60
        position_lt = rw position_is (omega (arith, sequence_rank_lt n qs valid, sequences_lt n small))

        pub position_stands : StandsAt (sequences n) (size + (c * 2 ^ (n - k) % 2 ^ 64 + b) * w + v) qs
        position_stands = rw position_is (sequence_stands n qs valid)
