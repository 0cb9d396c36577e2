-- `all_full` meets its contract: `good` says whether all sets passed are full.
use mathlib.Core.Path.{◌≡◌}
use Prim.Native.Nat.{◌-◌, ◌^◌}
use lib.Dec.{eqb}
use lib.ListN.{get_or}
use Rattle.sheets.specs.Counting.{all_below}
use Rattle.sheets.proofs.Symbols.all_full.Given as goal

abbrev pub invariant-loop-a : goal.invariant-loop-a
invariant-loop-a l = (l.all ≡ 2 ^ l.fn.self.order - 1) × (l.good ≡ all_below l.a (λ i. eqb (get_or l.table i 0) (2 ^ l.fn.self.order - 1)))
