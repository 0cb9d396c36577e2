-- Small loops, computed from the definitions.
use Prim.Native.Nat.{◌*◌, ◌%◌}
use mathlib.Core.List.{[], ◌∷◌}
use mathlib.Core.Path.{◌≡◌, refl}
use lib.Dec.{eqb}
use Rattle.loops.specs.Loops.{numbers, each, filter}

pub numbers_rise : numbers 3 4 ≡ 3 ∷ 4 ∷ 5 ∷ 6 ∷ []
numbers_rise = refl

-- the inner loop runs faster
pub inner_faster : each (numbers 1 2) (λ x. numbers (10 * x) 3) ≡ 10 ∷ 11 ∷ 12 ∷ 20 ∷ 21 ∷ 22 ∷ []
inner_faster = refl

pub passed_kept : filter (λ x. eqb (x % 3) 0) (numbers 1 7) ≡ 3 ∷ 6 ∷ []
passed_kept = refl
