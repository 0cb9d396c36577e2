-- `pair_in` meets its contract: the laws of `Turns` say that each turn of the loop keeps the pair that it is on the way to.
use Rattle.pairs.proofs.PairWalk.{walk_in}
use Rattle.pairs.proofs.Turns.{Between}
use Rattle.pairs.proofs.pair.pair_in.Given as goal

abbrev pub invariant-loop-gaps : goal.invariant-loop-gaps
invariant-loop-gaps l =
    Between l.n l.word l.bits (walk_in l.n l.k l.place) l.index l.left l.gaps l.commas l.r l.s l.product
