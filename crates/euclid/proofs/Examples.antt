-- Document 01's entries for the chain, by computation.
use mathlib.Core.List.{[], ◌∷◌}
use mathlib.Core.Path.{◌≡◌, refl}
use Rattle.poly.specs.Code.{add, scale, degree}
use Rattle.poly.specs.Division.{inverse, bring_down, divide}
use Rattle.euclid.specs.Chain.{chain}

pub chains : (chain 2 15 11 ≡ record { quotients = 1 ∷ 2 ∷ 3 ∷ 3 ∷ []; divisor = 1 })
    × (chain 2 15 9 ≡ record { quotients = 1 ∷ 3 ∷ 2 ∷ []; divisor = 3 })
    × (chain 2 9 9 ≡ record { quotients = 1 ∷ []; divisor = 9 })
unfolding chain divide bring_down inverse degree add scale
chains = (refl, refl, refl)
