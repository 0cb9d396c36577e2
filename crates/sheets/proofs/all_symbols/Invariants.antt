-- `all_symbols` meets its contract: `good` says whether all bytes passed are symbols.
use mathlib.Core.Path.{◌≡◌}
use lib.Dec.{ltb}
use lib.ListN.{get_or}
use Rattle.sheets.specs.Counting.{all_below}
use Rattle.sheets.proofs.all_symbols.Given as goal

abbrev pub invariant-loop-byte : goal.invariant-loop-byte
invariant-loop-byte l = l.good ≡ all_below l.byte-index (λ i. ltb (get_or l.bytes i 0) l.order)
