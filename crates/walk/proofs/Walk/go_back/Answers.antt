-- `go_back` meets its contract: it is refused where setting the mark is, and then by the one test of its own.
use mathlib.Core.Path.{◌∙◌}
use Rattle.std.proofs.lemmas.Result.{err_from_is_err_and}
use Rattle.walk.proofs.Tests.{test_passes}
use Rattle.walk.proofs.Looks.{good as good_record}
use Rattle.walk.proofs.Marks.{back_untested, back_empty, back_served, back_refused, back_done}
use Rattle.walk.proofs.Walk.go_back.Goals as goal

pub returns-in_err-length_for : goal.returns-in_err-length_for
returns-in_err-length_for c =
    let walk = c.args.self.now in
    let p = err_from_is_err_and c.from_residual.result c.from_residual.ensures.1 in
    let e = back_untested walk c.args.mark c.in_err-length_for.ensures.refuses in
    record { reply = rw (p.1, p.2) e; after = back_refused walk c.args.mark e }

pub returns-then-stored-eq0 : goal.returns-then-stored-eq0
returns-then-stored-eq0 c =
    let walk = c.args.self.now in
    let (good, one, long) = c.in_ok-length_for.ensures.passes in
    let e = back_empty walk c.args.mark (test_passes walk c.args.mark 18 good one) c.if-stored-eq0.true in
    record { reply = e; after = back_refused walk c.args.mark e }

pub work_out-requires : goal.work_out-requires
work_out-requires c = (good_record c.args.self.now c.in_ok-length_for.ensures.passes.0).degree_high

pub returns : goal.returns
returns c =
    let walk = c.args.self.now in
    let (good, one, long) = c.in_ok-length_for.ensures.passes in
    let e = back_served walk c.args.mark (test_passes walk c.args.mark 18 good one) c.if-stored-eq0.false in
    record { reply = e; after = c.work_out.ensures ∙ back_done walk c.args.mark e }
