-- `add_lines` meets its contract: in each turn the next line is put, up to the first that does not fit.
use mathlib.Core.Path.{◌≡◌}
use Prim.Native.Nat.{◌+◌, ◌/◌}
use lib.ListN.{length}
use Rattle.lines.specs.Inner.{lines_from}
use Rattle.lines.proofs.Fitting.{Begun}
use Rattle.lines.proofs.fill.add_lines.Given as goal

abbrev pub invariant-loop-i : goal.invariant-loop-i
invariant-loop-i l =
    Begun (lines_from l.initial.filling.next (length l.codes / 2) l.codes) l.initial.filling.next l.initial.out l.initial.filling.used
    l.i l.out l.filling.used
    × (l.filling.next ≡ l.initial.filling.next + l.i)
