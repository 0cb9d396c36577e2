-- `put` meets its contract: a skipped pair, a full slice, or one pair more.
use native.Mathlib.Omega.{arith}
use lib.ListN.{length-set}
use Rattle.listing.proofs.Written.{skipped, full, one_written}
use Rattle.listing.proofs.put.Goals as goal

pub returns-then-skip-gt0 : goal.returns-then-skip-gt0
returns-then-skip-gt0 c = skipped c.if-skip-gt0.true

pub returns-then-out-done : goal.returns-then-out-done
returns-then-out-done c = full c.if-out-done.true

pub bounds-out-done-2 : goal.bounds-out-done-2
bounds-out-done-2 c = simp length-set (omega arith)

pub returns : goal.returns
returns c =
    let a = c.args in
    one_written _ a.out.now a.done a.skip c.if-skip-gt0.false c.if-out-done.false
