-- `check_pair` meets its contract: g counts only where f has passed.
use mathlib.Core.List.{[]}
use mathlib.Core.Path.{sym, ◌∙◌}
use Rattle.std.proofs.lemmas.Result.{err_from_is_err_and}
use Rattle.reply.specs.Reply.{served}
use Rattle.reply.proofs.Order.{passed, failed}
use Rattle.poly.specs.Causes.{code_causes}
use Rattle.poly.proofs.arithmetic.check_pair.Goals as goal

pub returns-in_err-check : goal.returns-in_err-check
returns-in_err-check c =
    let a = c.args in
    let p = err_from_is_err_and c.from_residual.result c.from_residual.ensures.1 in
    rw (p.1, p.2) (failed (code_causes a.n a.g) (served []) (code_causes a.n a.f) c.in_err-check.ensures)

pub returns : goal.returns
returns c =
    let a = c.args in
    c.check-2.ensures
    ∙ sym (passed (code_causes a.n a.g) (served []) (code_causes a.n a.f) c.in_ok-check.ensures)
