-- `rising` meets its contract: `good` says whether each level passed is above the one before it.
use Rattle.levels.proofs.Ascent.{Rising}
use Rattle.levels.proofs.rising.Given as goal

abbrev pub invariant-loop-i : goal.invariant-loop-i
invariant-loop-i l = Rising l.levels l.good l.i
