-- `fill_lines` meets its contract: block after block is put, until one does not fit whole.
use Prim.Native.Nat.{◌-◌, ◌≤◌}
use lib.ListN.{length, drop}
use Rattle.lines.specs.Filling.{entry_lines}
use Rattle.lines.proofs.Fitting.{Begun}
use Rattle.lines.proofs.fill.fill_lines.Given as goal

abbrev pub invariant-loop-filling : goal.invariant-loop-filling
invariant-loop-filling l =
    (l.position ≤ l.filling.next) × Begun (drop l.position (entry_lines l.n)) l.position l.initial.out 0 (l.filling.next - l.position) l.out l.filling.used

abbrev pub decreases-loop-filling : goal.decreases-loop-filling
decreases-loop-filling l = length (entry_lines l.n) - l.filling.next
