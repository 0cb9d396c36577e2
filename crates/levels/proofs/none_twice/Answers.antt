-- `none_twice` meets its contract: a level found among those before it repeats one; one that is not, or whose slot is free, is new.
use mathlib.Core.Path.{sym, ◌∙◌}
use Rattle.levels.proofs.Filter.{found_repeated, one_filtered}
use Rattle.levels.proofs.none_twice.Goals as goal
use Rattle.levels.proofs.none_twice.Goals.{else-seen-slot-via-then-seen-slot+else-among, else-seen-slot-via-else-seen-slot}

pub returns-then-among : goal.returns-then-among
returns-then-among c = found_repeated c.loop-i.invariant c.loop-i-test.true (sym c.among.ensures ∙ c.if-among.true)

pub loop-i-preserved : goal.loop-i-preserved
loop-i-preserved c =
    let s = c.loop-i.invariant in
    let there = c.loop-i-test.true in
    elim c.else-seen-slot.branch [
      | else-seen-slot-via-then-seen-slot+else-among w ↦
          rw c.from-slot.ensures (one_filtered s there (sym w.among.ensures ∙ w.if-among.false))
      | else-seen-slot-via-else-seen-slot w ↦
          rw c.from-slot.ensures (one_filtered s there (s.free _ (rw c.from-slot.ensures at w.if-seen-slot.false)))
    ]
