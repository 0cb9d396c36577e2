-- `heads_of` meets its contract: the laws of `Heads` say that each turn of the loop keeps what the heads are to give.
use Rattle.listing.proofs.Heads.{Between}
use Rattle.listing.proofs.heads_of.Given as goal

abbrev pub invariant-loop-gaps : goal.invariant-loop-gaps
invariant-loop-gaps l =
    Between l.fn.block.n l.fn.block.k l.group l.heads l.index l.left l.gaps l.commas l.head
