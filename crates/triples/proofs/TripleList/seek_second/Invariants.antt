-- `seek_second` meets its contract: it keeps what `Finding` says, and each code that is passed takes one bit from the set.
use Prim.Native.Nat.{ℕ}
use mathlib.Core.Path.{◌≡◌}
use Rattle.codes.specs.Codes.{coprimes_of}
use Rattle.triples.proofs.Finding.{Finding}
use Rattle.triples.proofs.TripleList.seek_second.Given as goal

-- The set `first` is that of the codes coprime to f.
pub record Kept (n half place first left rest : ℕ) : Type 0 where
  pub finding : Finding n half place left rest
  pub first_is : first ≡ coprimes_of half

abbrev pub invariant-loop-rest : goal.invariant-loop-rest
invariant-loop-rest l = Kept l.fn.self.n l.half l.place l.first l.left l.rest

abbrev pub decreases-loop-rest : goal.decreases-loop-rest
decreases-loop-rest l = l.left
