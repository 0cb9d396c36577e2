-- `put_threes` meets its contract. The invariant: eight sites for each turn have their symbols.
use mathlib.Core.List.{[], ◌∷◌}
use Prim.Native.Nat.{◌*◌}
use Rattle.squares.proofs.Patterns.{Turned}
use Rattle.squares.proofs.put_threes.Given as goal

abbrev pub invariant-loop-i : goal.invariant-loop-i
invariant-loop-i l = Turned (l.f ∷ l.g ∷ l.h ∷ []) l.pattern (24 * l.i)
