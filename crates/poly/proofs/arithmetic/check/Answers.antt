-- `check` meets its contract: a nonzero code has degree n exactly where `degree_of` gives n, and 0 has none.
use mathlib.Core.Path.{◌≡◌, sym, ◌∙◌}
use Prim.Native.Nat.{ℕ, ◌<◌}
use native.Mathlib.Nat.{pos_of_ne-zero, le_refl}
use native.Mathlib.Omega.{arith}
use borrow.Author.Tests.{eq-eqb, ne_eqb}
use lib.Pow.{pow_pos}
use Rattle.poly.specs.Code.{degree, HasDegree}
use Rattle.poly.specs.Causes.{code_causes}
use Rattle.poly.proofs.Leading.{degree_has, degree_is}
use Rattle.poly.proofs.Ranges.{on_degree, off_degree_lem}
use Rattle.poly.proofs.arithmetic.check.Goals as goal

has : {n a r : ℕ} → 0 < a → r ≡ degree 2 a → r ≡ n → HasDegree 2 n a
has {n} {a} pos is e = rw (sym is ∙ e) at (degree_has 2 (le_refl 2) pos)

pub returns-then-code-eq0 : goal.returns-then-code-eq0
unfolding code_causes
returns-then-code-eq0 c = rw (off_degree_lem c.args.n c.args.code (λ h. omega (arith, h.low, pow_pos c.args.n)))

pub returns-then-degree_of-n : goal.returns-then-degree_of-n
unfolding code_causes
returns-then-degree_of-n c =
    let a = c.args in
    rw (off_degree_lem a.n a.code (λ h. c.if-degree_of-n.true (c.degree_of.ensures ∙ degree_is 2 (le_refl 2) h)))

pub returns-then-code-eq0-2 : goal.returns-then-code-eq0-2
unfolding code_causes
returns-then-code-eq0-2 c =
    let on = has (pos_of_ne-zero c.if-code-eq0.false) c.degree_of.ensures c.if-degree_of-n.false in
    rw (on_degree on, eq-eqb _ _ c.if-code-eq0-2.true)

pub returns : goal.returns
unfolding code_causes
returns c =
    let on = has (pos_of_ne-zero c.if-code-eq0.false) c.degree_of.ensures c.if-degree_of-n.false in
    rw (on_degree on, ne_eqb _ _ c.if-code-eq0-2.false)
