-- `rising` meets its contract: a level not above the one before it settles the answer, another leaves it as it was.
use Rattle.levels.proofs.Ascent.{not_rising, one_rising}
use Rattle.levels.proofs.rising.Goals as goal
use Rattle.levels.proofs.rising.Goals.{then-levels-i, else-levels-i}

pub loop-i-preserved : goal.loop-i-preserved
loop-i-preserved c =
    let s = c.loop-i.invariant in
    let there = c.loop-i-test.true in
    elim c.if-levels-i.branch [
      | then-levels-i w ↦ rw w.good-is (not_rising s there w.if-levels-i.true)
      | else-levels-i w ↦ rw w.good-is (one_rising s there w.if-levels-i.false)
    ]
