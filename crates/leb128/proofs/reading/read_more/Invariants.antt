-- `read_more` meets its contract: the invariant says that the groups so far and the bytes from `next` on make up the number.
use Prim.Native.Nat.{◌+◌, ◌-◌}
use Rattle.leb128.proofs.Groups.{SoFar}
use Rattle.leb128.proofs.reading.read_more.Given as goal

abbrev pub invariant-loop-next : goal.invariant-loop-next
invariant-loop-next l = SoFar l.file l.at l.low l.value l.unit l.next (l.at + 8 - l.next)
