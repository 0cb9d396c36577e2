-- `printable` meets its contract: all bytes are from 32 to 126 where those passed are, as `good` says, and those that are left.
use mathlib.Core.Path.{◌≡◌}
use mathlib.Core.Bool.{not, ◌&&◌}
use lib.ListN.{drop}
use Rattle.trial.specs.Trial.{any_unprintable}
use Rattle.trial.proofs.printable.Given as goal

abbrev pub invariant-loop-byte : goal.invariant-loop-byte
invariant-loop-byte l = not (any_unprintable l.bytes) ≡ (l.good && not (any_unprintable (drop l.byte-index l.bytes)))
