-- `set_right` meets its contract: the test of the record is its only one.
use mathlib.Core.List.{[]}
use mathlib.Core.Path.{◌∙◌}
use Rattle.std.proofs.lemmas.Result.{err_from_is_err_and}
use Rattle.reply.specs.Reply.{served}
use Rattle.reply.proofs.Order.{sole_served}
use Rattle.walk.specs.Walks.{bad_record}
use Rattle.walk.proofs.Looks.{good}
use Rattle.walk.proofs.Righting.{right_tested, right_refused, right_done}
use Rattle.walk.proofs.Walk.set_right.Goals as goal

pub returns-in_err-checked : goal.returns-in_err-checked
returns-in_err-checked c =
    let walk = c.args.self.now in
    let p = err_from_is_err_and c.from_residual.result c.from_residual.ensures.1 in
    let e = c.in_err-checked.ensures ∙ right_tested walk in
    record { reply = rw (p.1, p.2) e; after = right_refused walk e }

pub work_out-requires : goal.work_out-requires
work_out-requires c =
    let walk = c.args.self.now in
    (good walk (sole_served (bad_record walk) 3 (served []) c.in_ok-checked.ensures).0).degree_high

pub returns : goal.returns
returns c =
    let walk = c.args.self.now in
    let e = c.in_ok-checked.ensures ∙ right_tested walk in
    record { reply = e; after = c.work_out.ensures ∙ right_done walk e }
