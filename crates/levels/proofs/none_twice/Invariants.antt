-- `none_twice` meets its contract: no level passed is equal to an earlier one, and the filter has a slot for each of them.
use Rattle.levels.proofs.Filter.{Filtering}
use Rattle.levels.proofs.none_twice.Given as goal

abbrev pub invariant-loop-i : goal.invariant-loop-i
invariant-loop-i l = Filtering l.levels l.seen l.i
