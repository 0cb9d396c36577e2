-- Binomial coefficients by Pascal's rule, and from a neighbour by one product and one exact division, as code computes them (absorption).
use Prim.Native.Nat.{ℕ, zero, suc, ◌+◌, ◌-◌, ◌*◌, ◌/◌, ◌%◌, ◌<◌}
use native.Mathlib.Nat.{add-mul, mul-suc, zero-mul, mul-div_cancel, mul-add, mul-mod_left, zero-mod}
use native.Mathlib.Decide.{dec_lt}
use native.Mathlib.Omega.{arith}
use mathlib.Core.Path.{◌≡◌, refl, sym, ap}
use Rattle.pairs.specs.Counts.{choose}

pub choose_above : (n k : ℕ) → n < k → choose n k ≡ 0
choose_above n zero h = absurd (omega arith)
choose_above zero (suc k) h = refl
choose_above (suc n) (suc k) h = omega (arith, choose_above n k (omega arith), choose_above n (suc k) (omega arith))

pub choose_all : (n : ℕ) → choose n n ≡ 1
choose_all zero = refl
choose_all (suc n) = omega (arith, choose_all n, choose_above n (suc n) (omega arith))

absorption : (n k : ℕ) → choose (suc n) (suc k) * suc k ≡ choose n k * suc n
absorption zero zero = refl
absorption zero (suc k) = zero-mul (suc (suc k))
absorption (suc n) zero = omega (arith, absorption n zero)
absorption (suc n) (suc k) =
    let a : ℕ = choose n k in
    let b : ℕ = choose n (suc k) in
    let c : ℕ = choose n (suc (suc k)) in
    omega (
      arith,
      absorption n k,
      absorption n (suc k),
      add-mul (a + b) (b + c) (suc (suc k)),
      add-mul a b (suc n),
      mul-suc (a + b) (suc k),
      mul-suc (a + b) (suc n),
    )

-- Down both: n - 1 and k - 1.
pub choose_down : (n k : ℕ) → choose n k ≡ choose (suc n) (suc k) * suc k / suc n
choose_down n k = rw absorption (sym (mul-div_cancel (choose n k) (omega arith)))

-- This division and the next have no remainder.
pub down_whole : (n k : ℕ) → 0 < n → choose n k * k % n ≡ 0
down_whole zero k pos = absurd (omega arith)
down_whole (suc n) zero pos = zero-mod (suc n)
down_whole (suc n) (suc k) pos = rw absorption (mul-mod_left (choose n k) (suc n))

pub neighbours : (n k : ℕ) → choose n k * (n - k) ≡ choose n (suc k) * suc k
neighbours n k = elim (dec_lt n k) [
  | yes l ↦ rw (choose_above n k l, choose_above n (suc k) (omega arith), zero-mul (n - k), zero-mul (suc k))
  | no l ↦ let a : ℕ = choose n k in
      let whole : a * (suc k + (n - k)) ≡ a * suc n = ap (λ v. a * v) (omega arith) in
      omega (arith, absorption n k, add-mul a (choose n (suc k)) (suc k), mul-add a (suc k) (n - k))
]

-- On to k + 1.
pub choose_next : (n k : ℕ) → choose n (suc k) ≡ choose n k * (n - k) / suc k
choose_next n k = rw neighbours (sym (mul-div_cancel (choose n (suc k)) (omega arith)))

pub next_whole : (n k : ℕ) → choose n k * (n - k) % suc k ≡ 0
next_whole n k = rw neighbours (mul-mod_left (choose n (suc k)) (suc k))
