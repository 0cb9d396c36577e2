-- `seek` meets its contract: it keeps what `Seeking` says, one code further at each turn.
use Prim.Native.Nat.{◌-◌}
use Rattle.triples.proofs.Seeking.{Seeking}
use Rattle.triples.proofs.TripleList.seek.Given as goal

abbrev pub invariant-loop-rest : goal.invariant-loop-rest
invariant-loop-rest l = Seeking l.fn.self.n l.position l.half l.rest

abbrev pub decreases-loop-rest : goal.decreases-loop-rest
decreases-loop-rest l = 64 - l.half
