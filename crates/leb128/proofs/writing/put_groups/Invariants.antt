-- `put_groups` meets its contract: what is left to put is the encoding of what is left of the number.
use Rattle.leb128.specs.Number.{encode_number}
use Rattle.leb128.proofs.Putting.{Putting}
use Rattle.leb128.proofs.writing.put_groups.Given as goal

abbrev pub invariant-loop-left : goal.invariant-loop-left
invariant-loop-left l = Putting l.initial.out l.out l.at l.next (encode_number l.value) (encode_number l.left)

abbrev pub decreases-loop-left : goal.decreases-loop-left
decreases-loop-left l = l.left
