-- Why the last positions have the longest chains. The pair at a position is built from k quotients, and its chain is these from the end,
-- behind a leading 1: k + 1 quotients. The blocks of the list go by rising k, so that n + 1 is reached in the last one, k = n. There all
-- degrees are 1, which leaves one composition and no intermediate bits: a sequence for each word of n letters.
use Prim.Native.Nat.{ℕ, zero, suc, ◌+◌, ◌-◌, ◌≤◌, ◌<◌}
use native.Mathlib.Nat.{add-zero, zero-add, add-suc, suc-add, add-sub_of_le, le_refl, sub_self, one-mul, pow-zero}
use native.Mathlib.Decide.{dec_lt}
use native.Mathlib.Omega.{arith}
use mathlib.Core.Bool.{Bool, true, false}
use mathlib.Core.List.{◌∷◌}
use mathlib.Core.Path.{◌≡◌, refl, ap, ◌∙◌}
use borrow.Author.Tests.{eq-eqb, ne_eqb}
use lib.Dec.{eqb}
use lib.ListN.{length, length-reverse}
use Rattle.loops.specs.Loops.{numbers, filter}
use Rattle.loops.proofs.Loops.{before, before_lt, before_next, listed_numbers}
use Rattle.pairs.specs.Words.{s10}
use Rattle.pairs.specs.Pairs.{start, pairs}
use Rattle.pairs.proofs.Binomial.{choose_all}
use Rattle.pairs.proofs.Compositions.{parts}
use Rattle.pairs.proofs.Words.{count, count_closed}
use Rattle.pairs.proofs.Blocks.{block_size, block_rank, block_rank_lt, length_le}
use Rattle.pairs.proofs.Sequences.{sequence_at, sequence_rank, SequenceAt}
use Rattle.pairs.proofs.Pairs.{length_blocks, pair_at_is, sequence_known}
use Rattle.pairs.proofs.Sequence.{valid_chain}
use Rattle.longest.specs.Longest.{quotients_at, longest_at}
use Rattle.longest.specs.Claims.{LongestClaim}

-- ---- the block of n quotients
parts_all : (n : ℕ) → parts n n ≡ 1
parts_all zero = refl
parts_all (suc n) = choose_all n

block_all : (n : ℕ) → block_size n n ≡ count s10 n
unfolding block_size
block_all n = simp (parts_all n, sub_self, pow-zero, one-mul)

-- How many sequences of degree n have fewer than n quotients.
unfoldable pub fewer : ℕ → ℕ
fewer n = before (block_size n) 2 (n - 2)

pub length_parted : (n : ℕ) → 1 ≤ n → length (pairs n) ≡ fewer n + count s10 n
unfolding fewer
length_parted zero h = absurd (omega arith)
length_parted (suc zero) h = length_blocks 1
length_parted (suc (suc n)) h =
    let up : suc (suc n) - 1 ≡ suc n = omega arith in
    let down : suc (suc n) - 2 ≡ n = omega arith in
    let at : 2 + n ≡ suc (suc n) = omega arith in
    rw (length_blocks, up, down, before_next (block_size (suc (suc n))) 2 n, at, block_all)

-- ---- the quotients of the pair at a position
module _ (n j : ℕ) (below : j < length (pairs n)) where
  known : SequenceAt n j (sequence_at n j)
  known = sequence_known n j below

  quotients_are : quotients_at n j ≡ suc (length (sequence_at n j))
  unfolding quotients_at
  quotients_are =
      rw (pair_at_is n j start below, valid_chain n (sequence_at n j) known.valid) (ap suc (length-reverse (sequence_at n j)))

  pub quotients_le : quotients_at n j ≤ n + 1
  quotients_le = omega (arith, quotients_are, length_le n (sequence_at n j) known.valid)

  -- n quotients are reached in the last block, fewer stand before it
  pub reached : quotients_at n j ≡ n + 1 → fewer n ≤ j
  unfolding fewer sequence_rank
  reached e =
      let long : length (sequence_at n j) ≡ n = omega (arith, quotients_are) in
      let rank = rw long at known.rank in
      omega arith

  earlier : length (sequence_at n j) < n → j < fewer n
  unfolding fewer sequence_rank
  earlier l =
      let qs = sequence_at n j in
      let several = known.valid.several in
      let here : 2 + (length qs - 2) ≡ length qs = add-sub_of_le several in
      rw known.rank at
      (before_lt (block_size n) 2 (n - 2) (length qs - 2) (block_rank n qs) (omega arith) (rw here (block_rank_lt n qs known.valid)))

  pub reaches : fewer n ≤ j → quotients_at n j ≡ n + 1
  reaches e = elim (dec_lt (length (sequence_at n j)) n) [
    | yes l ↦ absurd (omega (arith, earlier l))
    | no l ↦ omega (arith, quotients_are, length_le n (sequence_at n j) known.valid)
  ]

-- ---- rising numbers of which the first m fail a test and the others pass it
module _ (test : ℕ → Bool) where
  filter_all : (a k : ℕ) → ((j : ℕ) → a ≤ j → j < a + k → test j ≡ true) → filter test (numbers a k) ≡ numbers a k
  filter_all a zero pass = refl
  filter_all a (suc k) pass =
      rw (pass a (le_refl a) (omega arith)) (ap (◌∷◌ a) (filter_all (suc a) k (λ j h l. pass j (omega arith) (omega arith))))

  filter_last : (a m k : ℕ) → ((j : ℕ) → a ≤ j → j < a + m → test j ≡ false)
      → ((j : ℕ) → a + m ≤ j → j < a + m + k → test j ≡ true) → filter test (numbers a (m + k)) ≡ numbers (a + m) k
  filter_last a zero k fail pass =
      rw (zero-add, add-zero) (filter_all a k (λ j h l. pass j (omega arith) (omega arith)))
  filter_last a (suc m) k fail pass =
      rw (suc-add m k, fail a (le_refl a) (omega arith), add-suc a m, ← suc-add a m)
      (filter_last (suc a) m k (λ j h l. fail j (omega arith) (omega arith)) (λ j h l. pass j (omega arith) (omega arith)))

module _ (n : ℕ) (pos : 1 ≤ n) where
  pub longest_last : longest_at n ≡ numbers (fewer n) (count s10 n)
  unfolding longest_at
  longest_last =
      rw (length_parted n pos)
      (filter_last (λ j. eqb (quotients_at n j) (n + 1)) 0 (fewer n) (count s10 n)
      (λ j h l. ne_eqb (quotients_at n j) (n + 1) (λ e. omega (arith, reached n j (rw (length_parted n pos) (omega arith)) e)))
      (λ j h l. eq-eqb (quotients_at n j) (n + 1) (reaches n j (rw (length_parted n pos) (omega arith)) (omega arith)))
      ∙ ap (λ a. numbers a (count s10 n)) (zero-add (fewer n)))

  pub longest_count : length (longest_at n) ≡ count s10 n
  longest_count = rw longest_last (listed_numbers (fewer n) (count s10 n)).long

pub longest_chains : LongestClaim
longest_chains n pos =
    let parted = length_parted n pos in
    let counted = longest_count n pos in
    record {
      at_most = quotients_le n;
      number = omega (arith, count_closed n);
      last = λ j h. (
        λ e. omega (arith, reached n j h (omega arith)),
        λ l. omega (arith, reaches n j h (omega arith)),
      );
    }
