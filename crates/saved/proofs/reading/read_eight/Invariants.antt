-- `read_eight` meets its contract: the numbers read are at the front of the array.
use Rattle.saved.proofs.Eights.{SoFar}
use Rattle.saved.proofs.reading.read_eight.Given as goal

abbrev pub invariant-loop-number : goal.invariant-loop-number
invariant-loop-number l = SoFar l.most l.file l.at l.number-items l.next l.number-index
