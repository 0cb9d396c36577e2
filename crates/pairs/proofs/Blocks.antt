-- The sequences of k quotients. Three loops of fixed lengths stand inside each other, so a place is read off by division: the word's
-- index, then the intermediate bits, then the composition's index; the rank puts the three together again.
use Prim.Native.Nat.{ℕ, ◌+◌, ◌-◌, ◌*◌, ◌/◌, ◌%◌, ◌^◌, ◌≤◌, ◌<◌}
use native.Mathlib.Nat.{mod-lt, div-add-mod', div-lt_iff_lt-mul, div-div-eq-div-mul, zero-add, mul_comm, mul_assoc}
use native.Mathlib.Omega.{arith}
use mathlib.Core.Path.{◌≡◌, sym, ap, ◌∙◌}
use mathlib.Core.Bool.{Bool}
use mathlib.Core.List.{List, [], map}
use lib.ListN.{length, length-map}
use lib.Arith.{digits_div, digits_mod, digits_lt, mod-mul}
use lib.Pow.{pow_pos}
use Rattle.loops.specs.Loops.{numbers, each}
use Rattle.loops.proofs.Loops.{Listed, listed_as, listed_map, listed_numbers, listed_each, factor_pos}
use Rattle.poly.specs.Code.{degree}
use Rattle.pairs.specs.Counts.{sum}
use Rattle.pairs.specs.Words.{s10, words, kept}
use Rattle.pairs.specs.Sequences.{quotients, block, bits}
use Rattle.pairs.proofs.Valid.{constant, Valid}
use Rattle.pairs.proofs.Words.{count, word_at, word_rank, listed_words, WordAt, word_at_known, word_rank_lt, word_at_rank}
use Rattle.pairs.proofs.Compositions.{
  parts,
  composition_at,
  composition_rank,
  listed_compositions,
  CompositionAt,
  composition_at_known,
  composition_rank_lt,
  composition_at_rank,
}
use Rattle.pairs.proofs.Quotients.{middle, Parts, quotients_parts, middle_lt, quotients_of_parts, bits_total}

-- How many sequences of k quotients there are.
unfoldable pub block_size : ℕ → ℕ → ℕ
block_size n k = parts n k * (2 ^ (n - k) * count s10 k)

-- The sequence at place j of them.
unfoldable pub block_at : ℕ → ℕ → ℕ → List ℕ
block_at n k j =
    let c : ℕ = j / count s10 k in
    quotients (composition_at n k (c / 2 ^ (n - k))) (c % 2 ^ (n - k)) (word_at s10 k (j % count s10 k))

-- The place of a sequence among those with as many quotients.
unfoldable pub block_rank : ℕ → List ℕ → ℕ
block_rank n qs =
    (composition_rank n (map (degree 2) qs) * 2 ^ (n - length qs) + middle qs) * count s10 (length qs) + word_rank s10 (map constant qs)

-- The three indices in one place: division by the word count first, or last.
module _ (j m w : ℕ) (mpos : 0 < m) (wpos : 0 < w) where
  outer_index : j / (m * w) ≡ j / w / m
  outer_index = rw (div-div-eq-div-mul, mul_comm w m)

  middle_index : j % (m * w) / w ≡ j / w % m
  middle_index = rw (mod-mul j mpos wpos) (digits_div (j / w % m) (mod-lt j wpos))

  inner_index : j % (m * w) % w ≡ j % w
  inner_index = rw (mod-mul j mpos wpos) (digits_mod (j / w % m) (mod-lt j wpos))

-- A place in a block has an index of a composition and of a word.
module _ (n k r : ℕ) (fits : r < block_size n k) where
  pub word_index : r % count s10 k < count s10 k
  unfolding block_size
  word_index = mod-lt r (factor_pos (2 ^ (n - k)) 0 (count s10 k) (factor_pos (parts n k) r (2 ^ (n - k) * count s10 k) fits))

  pub composition_index : r / count s10 k / 2 ^ (n - k) < parts n k
  unfolding block_size
  composition_index =
      let wpos : 0 < count s10 k = omega (arith, word_index) in
      (div-lt_iff_lt-mul (pow_pos (n - k))).1 ((div-lt_iff_lt-mul wpos).1 (rw (mul_assoc (parts n k) (2 ^ (n - k)) (count s10 k)) fits))

pub listed_block : (n k : ℕ) → Listed (block n k) (block_size n k) (block_at n k) []
unfolding block block_size block_at
listed_block n k = listed_as (block_at n k) (listed_each _ (M * W) at [] inner (listed_compositions n k)) same
  where
    M : ℕ
    M = 2 ^ (n - k)

    W : ℕ
    W = count s10 k

    at : List ℕ → ℕ → List ℕ
    at ds i = quotients ds (0 + i / W) (word_at s10 k (i % W))

    inner : (ds : List ℕ) → Listed (each (numbers 0 M) (λ b. map (quotients ds b) (words k))) (M * W) (at ds) []
    inner ds = listed_each (λ b. map (quotients ds b) (words k)) W (λ b i. quotients ds b (word_at s10 k i)) []
        (λ b. listed_map (quotients ds b) [] (listed_words k)) (listed_numbers 0 M)

    same : (j : ℕ) → j < parts n k * (M * W) → at (composition_at n k (j / (M * W))) (j % (M * W)) ≡ block_at n k j
    same j h =
        let wpos : 0 < W = omega (arith, word_index n k j h) in
        let mpos : 0 < M = pow_pos (n - k) in
        rw (zero-add, outer_index j M W mpos wpos, middle_index j M W mpos wpos, inner_index j M W mpos wpos)

-- What the sequence at place r is known by.
pub record BlockAt (n k r : ℕ) (qs : List ℕ) : Type 0 where
  pub long : length qs ≡ k
  pub valid : Valid n qs
  pub rank : block_rank n qs ≡ r

from_parts : (n k i b v : ℕ) (ds : List ℕ) (w : List Bool) → 2 ≤ k → CompositionAt n k i ds → b < 2 ^ (n - k) → WordAt s10 k v w
    → BlockAt n k ((i * 2 ^ (n - k) + b) * count s10 k + v) (quotients ds b w)
unfolding block_rank
from_parts n k i b v ds w h c small l =
    let room : bits ds ≡ n - k = omega (arith, bits_total ds c.positive, c.long, c.total) in
    go (quotients_parts ds b w c.positive (rw room small) (l.long ∙ sym c.long))
  where
    qs : List ℕ
    qs = quotients ds b w

    go : Parts ds b w qs → BlockAt n k ((i * 2 ^ (n - k) + b) * count s10 k + v) qs
    go t =
        let long : length qs ≡ k = sym (length-map qs (degree 2)) ∙ ap length t.degrees ∙ c.long in
        record {
          long = long;
          valid = record {
            several = rw long h;
            positive = rw t.degrees c.positive;
            total = ap sum t.degrees ∙ c.total;
            word = ap kept t.word ∙ l.ends;
          };
          rank = rw (t.degrees, c.rank, long, t.between, t.word, l.rank);
        }

pub block_at_known : (n k r : ℕ) → 2 ≤ k → r < block_size n k → BlockAt n k r (block_at n k r)
unfolding block_at
block_at_known n k r h fits =
    rw whole at (from_parts n k (r / W / M) (r / W % M) (r % W) (composition_at n k (r / W / M)) (word_at s10 k (r % W)) h
    (composition_at_known n k (r / W / M) (composition_index n k r fits)) (mod-lt (r / W) (pow_pos (n - k)))
    (word_at_known s10 k (r % W) (word_index n k r fits)))
  where
    M : ℕ
    M = 2 ^ (n - k)

    W : ℕ
    W = count s10 k

    whole : (r / W / M * M + r / W % M) * W + r % W ≡ r
    whole = rw (div-add-mod' (r / W) M) (div-add-mod' r W)

module _ (n : ℕ) (qs : List ℕ) (v : Valid n qs) where
  composition_lt : composition_rank n (map (degree 2) qs) < parts n (length qs)
  composition_lt = rw (length-map qs (degree 2)) at (composition_rank_lt n (map (degree 2) qs) v.positive v.total)

  room : bits (map (degree 2) qs) + length qs ≡ n
  room = rw (length-map qs (degree 2), v.total) at (bits_total (map (degree 2) qs) v.positive)

  pub between_lt : middle qs < 2 ^ (n - length qs)
  between_lt = let e : bits (map (degree 2) qs) ≡ n - length qs = omega (arith, room) in rw e at (middle_lt qs v.positive)

  word_lt : word_rank s10 (map constant qs) < count s10 (length qs)
  word_lt = rw (length-map qs constant) at (word_rank_lt s10 (map constant qs) v.word)

  pub length_le : length qs ≤ n
  length_le = omega (arith, room)

  pub block_rank_lt : block_rank n qs < block_size n (length qs)
  unfolding block_rank block_size
  block_rank_lt = rw (← mul_assoc) (digits_lt (digits_lt composition_lt between_lt) word_lt)

  composition_back : composition_at n (length qs) (composition_rank n (map (degree 2) qs)) ≡ map (degree 2) qs
  composition_back = rw (length-map qs (degree 2)) at (composition_at_rank n (map (degree 2) qs) v.positive v.total)

  word_back : word_at s10 (length qs) (word_rank s10 (map constant qs)) ≡ map constant qs
  word_back = rw (length-map qs constant) at (word_at_rank s10 (map constant qs) v.word)

  pub block_at_rank : block_at n (length qs) (block_rank n qs) ≡ qs
  unfolding block_at block_rank
  block_at_rank =
      let c : ℕ = composition_rank n (map (degree 2) qs) in
      let place : ℕ = c * 2 ^ (n - length qs) + middle qs in
      rw (digits_div place word_lt, digits_mod place word_lt, digits_div c between_lt, digits_mod c between_lt, composition_back, word_back)
      (quotients_of_parts qs v.positive)
