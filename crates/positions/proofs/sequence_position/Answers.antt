-- `sequence_position` meets its contract: the parts that its callees find make the position.
use Prim.Native.Nat.{ℕ, ◌+◌, ◌-◌, ◌*◌, ◌%◌, ◌^◌, ◌≤◌, ◌<◌}
use native.Mathlib.Omega.{arith}
use mathlib.Core.List.{List, map}
use mathlib.Core.Path.{◌≡◌, ◌∙◌}
use lib.ListN.{length}
use Rattle.loops.specs.Loops.{numbers, each}
use Rattle.poly.specs.Code.{degree}
use Rattle.pairs.specs.Words.{s10, words, words_from, tabled}
use Rattle.pairs.specs.Sequences.{compositions, block, sequences}
use Rattle.positions.specs.Ranking.{StandsAt, Among, Parts, backwards, last_letters}
use Rattle.pairs.proofs.Words.{tabled_is}
use Rattle.positions.proofs.Ranking.{among_valid, length_backwards, backwards_count}
use Rattle.positions.proofs.Assembly.{word_leads, place_lt, position_lt, position_stands}
use Rattle.positions.proofs.sequence_position.Goals as goal

module _ (n : ℕ) (chain : List ℕ) (k : ℕ) (listed : Among (sequences n) (backwards chain k)) where
  counted : (2 ≤ k) × (k ≤ n)
  counted = backwards_count n chain k (among_valid n (backwards chain k) listed)

  words_counted : {kept : ℕ} → n < 32 → kept ≡ tabled k → kept ≡ length (words k)
  words_counted small e = e ∙ tabled_is k (omega (arith, counted))

  -- what is found in the block of k quotients
  at_block : {m j r : ℕ} → m ≡ n → j ≡ k → StandsAt (compositions m j) r (map (degree 2) (backwards chain j))
      → StandsAt (compositions n k) r (map (degree 2) (backwards chain k))
  at_block e e' s = rw (e, e') at s

  module _ (small : n < 32) {c b y : ℕ} (read : Parts (backwards chain k) b y)
      (composition : StandsAt (compositions n k) c (map (degree 2) (backwards chain k))) where
    place_fits : c * 2 ^ (n - k) % 2 ^ 64 + b < 2 ^ 63
    place_fits = place_lt (among_valid n (backwards chain k) listed) (length_backwards chain k) read small composition

    module _ {size v kept : ℕ} (sized : size ≡ length (each (numbers 2 (k - 2)) (block n)))
        (word : StandsAt (words_from s10 k) v (last_letters k y)) (is : kept ≡ tabled k) where
      fits : size + (c * 2 ^ (n - k) % 2 ^ 64 + b) * kept + v < 2 ^ 60
      fits =
          position_lt (among_valid n (backwards chain k) listed) (length_backwards chain k) read small composition sized word
          (words_counted small is)

      stands : StandsAt (sequences n) (size + (c * 2 ^ (n - k) % 2 ^ 64 + b) * kept + v) (backwards chain k)
      stands =
          position_stands (among_valid n (backwards chain k) listed) (length_backwards chain k) read small composition sized word
          (words_counted small is)

pub blocks_before-before-requires : goal.blocks_before-before-requires
blocks_before-before-requires c = omega (arith, counted c.args.n c.args.chain.now c.args.k c.requires.listed)

pub rank10-word-requires : goal.rank10-word-requires
rank10-word-requires c =
    let a = c.args in
    record {
      short = omega (arith, counted c.args.n c.args.chain.now c.args.k c.requires.listed);
      all = words_counted c.args.n c.args.chain.now c.args.k c.requires.listed c.requires.small c.word_count-words.ensures;
      word =
          word_leads (among_valid a.n (backwards a.chain.now a.k) c.requires.listed) (length_backwards a.chain.now a.k)
          c.bits_and_word-parts.ensures;
    }

pub overflow_mul-result : goal.overflow_mul-result
overflow_mul-result c =
    let b = c.blocks_before-before.ensures in
    omega (
      arith,
      fits c.args.n c.args.chain.now c.args.k c.requires.listed c.requires.small c.bits_and_word-parts.ensures
          (at_block c.args.n c.args.chain.now c.args.k c.requires.listed b.degree b.quotients c.composition_rank-composition.ensures)
          b.size c.rank10-word.ensures c.word_count-words.ensures,
    )

pub overflow_add-result : goal.overflow_add-result
overflow_add-result c =
    let b = c.blocks_before-before.ensures in
    omega (
      arith,
      fits c.args.n c.args.chain.now c.args.k c.requires.listed c.requires.small c.bits_and_word-parts.ensures
          (at_block c.args.n c.args.chain.now c.args.k c.requires.listed b.degree b.quotients c.composition_rank-composition.ensures)
          b.size c.rank10-word.ensures c.word_count-words.ensures,
    )

pub overflow_add-result-2 : goal.overflow_add-result-2
overflow_add-result-2 c =
    let b = c.blocks_before-before.ensures in
    omega (
      arith,
      fits c.args.n c.args.chain.now c.args.k c.requires.listed c.requires.small c.bits_and_word-parts.ensures
          (at_block c.args.n c.args.chain.now c.args.k c.requires.listed b.degree b.quotients c.composition_rank-composition.ensures)
          b.size c.rank10-word.ensures c.word_count-words.ensures,
    )

pub returns : goal.returns
returns c =
    let b = c.blocks_before-before.ensures in
    stands c.args.n c.args.chain.now c.args.k c.requires.listed c.requires.small c.bits_and_word-parts.ensures
    (at_block c.args.n c.args.chain.now c.args.k c.requires.listed b.degree b.quotients c.composition_rank-composition.ensures)
    b.size c.rank10-word.ensures c.word_count-words.ensures
