-- What makes a sequence of quotients one of degree n.
use Prim.Native.Nat.{ℕ, ◌%◌, ◌≤◌}
use mathlib.Core.Path.{◌≡◌}
use mathlib.Core.Bool.{Bool, true}
use mathlib.Core.List.{List, [], ◌∷◌, map}
use lib.ListN.{length}
use lib.Dec.{eqb}
use Rattle.poly.specs.Code.{degree}
use Rattle.pairs.specs.Counts.{sum}
use Rattle.pairs.specs.Words.{kept}

abbrev pub EachPositive : List ℕ → Type 0
EachPositive [] = Unit {0}
EachPositive (d ∷ ds) = (1 ≤ d) × EachPositive ds

-- The constant term of a polynomial, as a letter.
abbrev pub constant : ℕ → Bool
constant q = eqb (q % 2) 1

-- At least two quotients, each of degree at least 1, degrees with sum n, and a kept word of constant terms.
pub record Valid (n : ℕ) (qs : List ℕ) : Type 0 where
  pub several : 2 ≤ length qs
  pub positive : EachPositive (map (degree 2) qs)
  pub total : sum (map (degree 2) qs) ≡ n
  pub word : kept (map constant qs) ≡ true
