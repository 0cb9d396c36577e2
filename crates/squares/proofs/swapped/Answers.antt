-- `swapped` meets its contract: the two shifts bring the bit of an upper group down and that of a lower group up.
use Rattle.squares.proofs.Exchanges.{exchange}
use Rattle.squares.proofs.swapped.Goals as goal

pub returns : goal.returns
returns c = exchange c.args.x c.requires
