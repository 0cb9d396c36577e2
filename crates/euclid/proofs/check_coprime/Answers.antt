-- `check_coprime` meets its contract: the common factor counts only where both codes have passed.
use mathlib.Core.List.{[], ◌∷◌, ◌++◌}
use mathlib.Core.Path.{◌≡◌, sym, ◌∙◌}
use Prim.Native.Nat.{ℕ}
use Rattle.std.proofs.lemmas.Result.{err_from_is_err_and}
use borrow.Author.Tests.{eq-eqb, ne_eqb}
use Rattle.reply.specs.Reply.{served, unless}
use Rattle.reply.proofs.Order.{passed, failed}
use Rattle.poly.specs.Coprime.{gcd}
use Rattle.poly.specs.Causes.{code_causes, common_factor}
use Rattle.poly.specs.Replies.{check_pair_reply}
use Rattle.euclid.specs.Replies.{check_coprime_reply}
use Rattle.euclid.proofs.check_coprime.Goals as goal

-- both codes have passed: the common factor decides
decides : (n f g : ℕ) → served [] ≡ check_pair_reply n f g
    → check_coprime_reply n f g ≡ unless (common_factor f g ∷ []) (served [])
decides n f g e = passed (common_factor f g ∷ []) (served []) (code_causes n f ++ code_causes n g) e

pub returns-in_err-check_pair : goal.returns-in_err-check_pair
returns-in_err-check_pair c =
    let a = c.args in
    let p = err_from_is_err_and c.from_residual.result c.from_residual.ensures.1 in
    rw (p.1, p.2)
    (failed (common_factor a.f a.g ∷ []) (served []) (code_causes a.n a.f ++ code_causes a.n a.g) c.in_err-check_pair.ensures)

pub returns-then-gcd-ne1 : goal.returns-then-gcd-ne1
returns-then-gcd-ne1 c =
    let a = c.args in
    sym (decides a.n a.f a.g c.in_ok-check_pair.ensures
    ∙ rw (ne_eqb (gcd 2 a.f a.g) 1 (λ e. c.if-gcd-ne1.true (c.gcd.ensures ∙ e))))

pub returns : goal.returns
returns c =
    let a = c.args in
    sym (decides a.n a.f a.g c.in_ok-check_pair.ensures
    ∙ rw (eq-eqb (gcd 2 a.f a.g) 1 (sym c.gcd.ensures ∙ c.if-gcd-ne1.false)))
