-- `put_twos` meets its contract. The invariant: the first i sites have their symbols.
use mathlib.Core.List.{[], ◌∷◌}
use Rattle.squares.proofs.Patterns.{Begun}
use Rattle.squares.proofs.put_twos.Given as goal

abbrev pub invariant-loop-i : goal.invariant-loop-i
invariant-loop-i l = Begun (l.f ∷ l.g ∷ []) l.pattern l.i
