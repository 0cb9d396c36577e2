-- `fill_list` meets its contract: the laws of `Listing` say that each block keeps what is to be written of the list.
use Rattle.listing.proofs.Listing.{Going, left}
use Rattle.listing.proofs.fill_list.Given as goal

abbrev pub invariant-loop-next : goal.invariant-loop-next
invariant-loop-next l = Going l.n l.position l.fn.out l.out l.next l.skip l.done

abbrev pub decreases-loop-next : goal.decreases-loop-next
decreases-loop-next l = left l.next
