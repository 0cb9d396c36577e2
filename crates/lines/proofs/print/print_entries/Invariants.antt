-- `print_entries` ends: a filling that is not empty ends behind the position that it began at, and not behind the list's end.
use mathlib.Core.Path.{◌≡◌}
use Prim.Native.Nat.{◌-◌}
use lib.ListN.{length}
use Rattle.lines.specs.Filling.{entry_lines}
use Rattle.lines.proofs.print.print_entries.Given as goal

abbrev pub invariant-loop-buffer : goal.invariant-loop-buffer
invariant-loop-buffer g l = length l.buffer ≡ 65536

abbrev pub decreases-loop-buffer : goal.decreases-loop-buffer
decreases-loop-buffer g l = length (entry_lines l.n) - l.position
