-- For degrees up to 31 the numbers that the calls compute with fit the machine's words.
use Prim.Native.Nat.{ℕ, zero, suc, ◌-◌, ◌*◌, ◌^◌, ◌≤◌, ◌<◌}
use native.Mathlib.Nat.{le_refl, le_trans, lt_of_le_of_lt, zero-mul, mul-le-mul_right, pow-le-pow_right}
use native.Mathlib.Decide.{dec_lt}
use native.Mathlib.Omega.{arith}
use mathlib.Core.Path.{◌≡◌}
use lib.Arith.{le-zero}
use lib.Dec.{ltb, ltb→lt}
use lib.ListN.{length}
use lib.Pow.{pow_mono}
use Rattle.loops.specs.Loops.{numbers}
use Rattle.loops.proofs.Entries.{entry}
use Rattle.pairs.specs.Counts.{choose}
use Rattle.pairs.specs.Words.{words}
use Rattle.pairs.proofs.Words.{words_closed}
use Rattle.pairs.proofs.Binomial.{choose_above}
use Rattle.pairs.proofs.Blocks.{block_size}
use Rattle.pairs.proofs.Sequences.{block_size_le}
use Rattle.pairs.proofs.Length.{length_closed}

choose_grows : (n k : ℕ) → choose n k ≤ choose (suc n) k
choose_grows n zero = le_refl 1
choose_grows n (suc k) = omega arith

choose_mono : (m n k : ℕ) → n ≤ m → choose n k ≤ choose m k
choose_mono zero n k h = rw (le-zero h) (le_refl (choose 0 k))
choose_mono (suc m) n k h = elim (dec_lt n (suc m)) [
  | yes l ↦ le_trans (choose_mono m n k (omega arith)) (choose_grows m k)
  | no l ↦ let e : n ≡ suc m = omega arith in rw e (le_refl (choose (suc m) k))
]

-- C(n, k) k is greatest at n = 30; each k is tried in one computation.
greatest : (k : ℕ) → k < 31 → choose 30 k * k < 2 ^ 32
greatest k h = ltb→lt (choose 30 k * k) (2 ^ 32) (entry (λ k x. ltb (choose 30 k * k) (2 ^ 32)) (numbers 0 31) tt k h)

pub choose_times_lt : (n k : ℕ) → n ≤ 30 → choose n k * k < 2 ^ 32
choose_times_lt n k h = elim (dec_lt k 31) [
  | yes l ↦ lt_of_le_of_lt (mul-le-mul_right k (choose_mono 30 n k h)) (greatest k l)
  | no l ↦ rw (choose_above n k (omega arith), zero-mul k) (omega arith)
]

pub words_lt : (k : ℕ) → k ≤ 31 → length (words k) < 2 ^ 32
words_lt k h = omega (arith, words_closed k, pow_mono {i = k} {j = 31} h)

pub block_size_lt : (n k : ℕ) → 2 ≤ k → k ≤ n → n ≤ 31 → block_size n k < 2 ^ 61
block_size_lt n k two le h =
    omega (arith, block_size_le n k two le, length_closed n, pow-le-pow_right {n = 4} (omega arith) {i = n - 1} {j = 30} (omega arith))
