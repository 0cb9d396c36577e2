-- `fill` meets its contract: the words that begin with 0 are written first, then those that begin with 1, each from the remainders that the
-- letter makes; one letter less is left.
use lib.ListN.{length}
use Rattle.listing.proofs.+fill.Given as goal

abbrev pub decreases-fill : goal.decreases-fill
decreases-fill l = length l.heads.now
