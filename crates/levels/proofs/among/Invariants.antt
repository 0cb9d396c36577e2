-- `among` meets its contract: either a level passed is equal, or it is for those left to say.
use mathlib.Core.Bool.{◌||◌}
use mathlib.Core.Path.{◌≡◌}
use lib.ListN.{drop}
use Rattle.levels.specs.Levels.{repeated}
use Rattle.levels.proofs.among.Given as goal

abbrev pub invariant-loop-other : goal.invariant-loop-other
invariant-loop-other l = repeated l.levels l.level ≡ (l.found || repeated (drop l.other-index l.levels) l.level)
