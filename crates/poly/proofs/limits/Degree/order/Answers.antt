-- `Degree::order` meets its contract: a shift of 1 by at most 31 places loses nothing.
use mathlib.Core.Path.{sym, ◌∙◌}
use Prim.Native.Nat.{◌≤◌}
use native.Mathlib.Omega.{arith}
use Rattle.poly.proofs.Ranges.{within}
use Rattle.poly.proofs.Shifts.{one_shl}
use Rattle.poly.proofs.limits.Degree.order.Goals as goal

degree : (c : goal.Else-outside) → (1 ≤ c.args.self.n) × (c.args.self.n ≤ 31)
degree c = within 1 31 (sym c.outside.ensures ∙ c.if-outside.false)

pub overflow_shl-result : goal.overflow_shl-result
overflow_shl-result c = omega (arith, degree c)

pub returns : goal.returns
returns c =
    rw (sym c.outside.ensures ∙ c.if-outside.false, one_shl 64 c.args.self.n (omega (arith, degree c)))
