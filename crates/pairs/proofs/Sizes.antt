-- The numbers of compositions as code computes them: each from the one before it, and all within a register for degrees up to 31.
use Prim.Native.Nat.{ℕ, zero, suc, ◌+◌, ◌-◌, ◌*◌, ◌/◌, ◌%◌, ◌^◌, ◌≤◌, ◌<◌}
use native.Mathlib.Nat.{pow-suc, suc-sub-suc}
use native.Mathlib.Numerals.{sub-one, add-one}
use native.Mathlib.Omega.{arith}
use mathlib.Core.Path.{◌≡◌, refl, sym, ap, ◌∙◌}
use lib.Pow.{pow_mono}
use Rattle.pairs.specs.Counts.{choose}
use Rattle.pairs.proofs.Reciprocals.{share_exact}
use Rattle.pairs.proofs.Binomial.{neighbours, choose_next, next_whole}
use Rattle.pairs.proofs.Bounds.{choose_times_lt}
use Rattle.pairs.proofs.Compositions.{parts}

choose_le : (n k : ℕ) → choose n k ≤ 2 ^ n
choose_le zero zero = omega arith
choose_le (suc n) zero = omega (arith, choose_le n zero, pow-suc 2 n)
choose_le zero (suc k) = omega arith
choose_le (suc n) (suc k) = omega (arith, choose_le n k, choose_le n (suc k), pow-suc 2 n)

pub parts_lt : (n k : ℕ) → n < 32 → parts n k < 2 ^ 31
parts_lt zero zero h = omega arith
parts_lt zero (suc k) h = omega arith
parts_lt (suc n) zero h = omega arith
parts_lt (suc n) (suc k) h = omega (arith, choose_le n k, pow_mono {i = n} {j = 30} (omega arith))

choose_one : (n : ℕ) → choose n 1 ≡ n
choose_one zero = refl
choose_one (suc n) = omega (arith, choose_one n)

pub parts_two : (n : ℕ) → 1 ≤ n → n - 1 ≡ parts n 2
parts_two zero h = absurd (omega arith)
parts_two (suc n) h = rw sub-one (sym (choose_one n))

parts_next : (n k : ℕ) → 1 ≤ n → 1 ≤ k → parts n k * (n - k) / k ≡ parts n (k + 1)
parts_next zero k h l = absurd (omega arith)
parts_next (suc n) zero h l = absurd (omega arith)
parts_next (suc n) (suc k) h l = rw (add-one, suc-sub-suc) (sym (choose_next n k))

-- The product fits, and k divides it.
product : (n k : ℕ) {c : ℕ} → 1 ≤ k → k ≤ n → n < 32 → c ≡ parts n k → (c * (n - k) < 2 ^ 32) × (c * (n - k) % k ≡ 0)
product n zero l h small is = absurd (omega arith)
product zero (suc k) l h small is = absurd (omega arith)
product (suc n) (suc k) l h small is = (
  rw (is, suc-sub-suc n k, neighbours n k) (choose_times_lt n (suc k) (omega arith)),
  rw (is, suc-sub-suc n k) (next_whole n k),
)

-- So its multiple by the reciprocal of k is the next number.
pub next_share : (n k : ℕ) {c : ℕ} → 1 ≤ k → k ≤ n → n < 32 → c ≡ parts n k
    → (c * (n - k) < 2 ^ 32) × (c * (n - k) * (2 ^ 32 / k + 1) / 2 ^ 32 ≡ parts n (k + 1))
next_share n k {c} l h small is =
    let (fits, whole) = product n k l h small is in
    (fits, share_exact (c * (n - k)) k l whole fits ∙ ap (λ v. v * (n - k) / k) is ∙ parts_next n k (omega arith) l)
