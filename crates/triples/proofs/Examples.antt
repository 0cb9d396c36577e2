-- Document 02's own examples of the list, by computing the definition.
use Prim.Native.Nat.{ℕ}
use mathlib.Core.List.{[], ◌∷◌}
use mathlib.Core.Path.{◌≡◌, refl}
use Rattle.poly.specs.Code.{add, scale, degree}
use Rattle.poly.specs.Division.{inverse, bring_down, divide}
use Rattle.poly.specs.Coprime.{gcd}
use Rattle.codes.specs.Codes.{monic_codes, coprime}
use Rattle.triples.specs.Triples.{Triple, beginning_with_two, beginning_with, triples}

abbrev triple : ℕ → ℕ → ℕ → Triple
triple f g h = record { f = f; g = g; h = h }

-- all of degree 3
degree_3 : triples 3
    ≡ triple 9 11 13
    ∷ triple 9 13 11
    ∷ triple 11 9 13
    ∷ triple 11 13 9
    ∷ triple 11 13 15
    ∷ triple 11 15 13
    ∷ triple 13 9 11
    ∷ triple 13 11 9
    ∷ triple 13 11 15
    ∷ triple 13 15 11
    ∷ triple 15 11 13
    ∷ triple 15 13 11
    ∷ []
unfolding triples beginning_with beginning_with_two monic_codes coprime gcd divide bring_down inverse add scale degree
degree_3 = refl
