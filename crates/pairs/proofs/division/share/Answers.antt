-- `share` meets its contract: no reciprocal is above 2^32 + 1, so the product fits 64 bits.
use Rattle.pairs.proofs.division.share.Goals as goal

pub returns : goal.returns
returns c = rw (c.from.ensures, c.reciprocal.ensures)
