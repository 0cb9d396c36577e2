-- `any_above` meets its contract: after i numbers, `above` says whether one of them is above.
use mathlib.Core.Path.{◌≡◌}
use lib.ListN.{take}
use Rattle.walk.specs.Walks.{any_above}
use Rattle.walk.proofs.any_above.Given as goal

abbrev pub invariant-loop-number : goal.invariant-loop-number
invariant-loop-number l = l.above ≡ any_above l.most (take l.number-index l.numbers)
