-- `Degree::list_length` meets its contract: 4^(n-1) is 1 shifted by 2(n-1) places, which loses nothing up to degree 31.
use mathlib.Core.Path.{◌≡◌, refl, sym, ap, ◌∙◌}
use Prim.Native.Nat.{ℕ, zero, suc, ◌-◌, ◌*◌, ◌%◌, ◌^◌, ◌≤◌}
use native.Mathlib.Nat.{pow-suc, mul-suc}
use native.Mathlib.Omega.{arith}
use lib.Pow.{pow-add, pow_mono, pow_pos}
use Rattle.poly.proofs.Ranges.{within}
use Rattle.poly.proofs.Shifts.{one_shl}
use Rattle.poly.proofs.limits.Degree.list_length.Goals as goal

four_pow : (m : ℕ) → 2 ^ (2 * m) ≡ 4 ^ m
four_pow zero = refl
four_pow (suc m) = ap (λ (v : ℕ). 2 ^ v) (mul-suc 2 m) ∙ pow-add 2 (2 * m) 2 ∙ rw (four_pow m) (sym (pow-suc 4 m))

shifted : (n : ℕ) → n ≤ 31 → (1 * 2 ^ (2 * (n - 1))) % 2 ^ 64 ≡ 4 ^ (n - 1)
shifted n h = one_shl 64 (2 * (n - 1)) (omega arith) ∙ four_pow (n - 1)

bounds : (n : ℕ) → n ≤ 31 → (1 ≤ 4 ^ (n - 1)) × (4 ^ (n - 1) ≤ 2 ^ 60)
bounds n h = rw (← four_pow (n - 1)) (pow_pos (2 * (n - 1)), pow_mono {j = 60} (omega arith))

degree : (c : goal.Else-outside) → (1 ≤ c.args.self.n) × (c.args.self.n ≤ 31)
degree c = within 1 31 (sym c.outside.ensures ∙ c.if-outside.false)

pub overflow_sub-result : goal.overflow_sub-result
overflow_sub-result c = omega (arith, degree c)

pub overflow_mul-result : goal.overflow_mul-result
overflow_mul-result c = omega (arith, degree c)

pub overflow_shl-result : goal.overflow_shl-result
overflow_shl-result c = omega (arith, degree c)

pub overflow_sub-result-2 : goal.overflow_sub-result-2
overflow_sub-result-2 c = rw (shifted _ (degree c).1) (bounds _ (degree c).1).0

pub overflow_mul-result-2 : goal.overflow_mul-result-2
overflow_mul-result-2 c =
    let n = c.args.self.n in
    let (low, high) = bounds n (degree c).1 in
    let e : (1 * 2 ^ (2 * (n - 1))) % 2 ^ 64 ≡ 4 ^ (n - 1) = shifted n (degree c).1 in
    rw e (record { fits = omega arith })

pub returns : goal.returns
returns c = rw (sym c.outside.ensures ∙ c.if-outside.false, shifted _ (degree c).1)
