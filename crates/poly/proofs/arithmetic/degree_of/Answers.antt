-- `degree_of` meets its contract: a nonzero code of 32 bits with z leading zeros has its highest bit at 31 - z.
use mathlib.Core.Path.{◌≡◌, sym, ap}
use Prim.Native.Nat.{ℕ, ◌-◌, ◌≤◌, ◌<◌, ◌^◌}
use native.Mathlib.Nat.{pos_of_ne-zero, le_refl}
use native.Mathlib.Omega.{arith}
use lib.Count.{count_leading_zeros, leading_top}
use Rattle.poly.specs.Code.{degree}
use Rattle.poly.proofs.Leading.{degree_is}
use Rattle.poly.proofs.arithmetic.degree_of.Goals as goal

top : (a : ℕ) → 0 < a → a < 2 ^ 32 → (count_leading_zeros 32 a ≤ 31) × (31 - count_leading_zeros 32 a ≡ degree 2 a)
top a pos fits =
    let (j, e, low, high) = leading_top 32 a pos fits in
    let is : degree 2 a ≡ j = degree_is 2 (le_refl 2) (record { low = low; high = high }) in
    (omega arith, omega arith)

pub returns-then-code-eq0 : goal.returns-then-code-eq0
unfolding degree
returns-then-code-eq0 c = sym (ap (degree 2) c.if-code-eq0.true)

pub returns : goal.returns
returns c = (top c.args.code (pos_of_ne-zero c.if-code-eq0.false) c.ranges.code.fits).1
