-- `look` meets its contract: of a good record, the position decides between the pair that it holds and the end.
use native.Mathlib.Omega.{arith}
use Rattle.std.proofs.lemmas.Result.{err_from_is_err_and}
use Rattle.walk.proofs.Looks.{look_refused, look_below, look_end}
use Rattle.walk.proofs.Walk.look.Goals as goal

pub returns-in_err-length : goal.returns-in_err-length
returns-in_err-length c =
    let p = err_from_is_err_and c.from_residual.result c.from_residual.ensures.1 in
    rw (p.1, p.2) (look_refused c.args.self.now c.in_err-length.ensures.refuses)

pub returns-then-length-self : goal.returns-then-length-self
returns-then-length-self c =
    let (good, long) = c.in_ok-length.ensures.passes in
    look_end c.args.self.now good (omega arith)

pub returns : goal.returns
returns c =
    let (good, long) = c.in_ok-length.ensures.passes in
    rw (c.held-pair.ensures.f, c.held-pair.ensures.g) (look_below c.args.self.now good (omega arith))
