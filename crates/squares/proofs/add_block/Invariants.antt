-- `add_block` meets its contract. The invariant: the first i bytes of the run are stored.
use lib.ListN.{get_or}
use Rattle.squares.specs.Doubling.{Added}
use Rattle.squares.proofs.add_block.Given as goal

abbrev pub invariant-loop-i : goal.invariant-loop-i
invariant-loop-i l = Added l.initial.out l.from l.to l.i (λ k. get_or l.pattern k 0) l.out
