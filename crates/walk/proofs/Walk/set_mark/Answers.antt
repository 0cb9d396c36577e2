-- `set_mark` meets its contract: where its tests pass, the record is good, so that its position has room for one more.
use mathlib.Core.Path.{◌∙◌}
use Rattle.std.proofs.lemmas.Result.{err_from_is_err_and}
use Rattle.walk.proofs.Tests.{test_passes}
use Rattle.walk.proofs.Looks.{next_fits}
use Rattle.walk.proofs.Marks.{set_tested, set_refused, set_done}
use Rattle.walk.proofs.Walk.set_mark.Goals as goal

pub returns-in_err-length_for : goal.returns-in_err-length_for
returns-in_err-length_for c =
    let walk = c.args.self.now in
    let p = err_from_is_err_and c.from_residual.result c.from_residual.ensures.1 in
    let e = c.in_err-length_for.ensures.refuses ∙ set_tested walk c.args.mark in
    record { reply = rw (p.1, p.2) e; after = set_refused walk c.args.mark e }

pub overflow_add-stored : goal.overflow_add-stored
overflow_add-stored c = record { fits = next_fits c.args.self.now c.in_ok-length_for.ensures.passes.0 }

pub returns : goal.returns
returns c =
    let walk = c.args.self.now in
    let (good, one, long) = c.in_ok-length_for.ensures.passes in
    let e = test_passes walk c.args.mark 18 good one ∙ set_tested walk c.args.mark in
    record { reply = e; after = set_done walk c.args.mark e }
