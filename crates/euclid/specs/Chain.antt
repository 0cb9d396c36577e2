-- Euclid's algorithm (document 01, "Chain"): divide a by b, then divisor by remainder, until the remainder is 0.
use Rattle.std.specs.Prelude.{ℕ, zero, suc, List, [], ◌∷◌}
use Rattle.poly.specs.Code.{add, mul}
use Rattle.poly.specs.Division.{divide}

-- The quotients in the order of the divisions, and the last divisor, which is `gcd p a b` (the law `chain_divisor`).
pub record Chain : Type 0 where
  pub quotients : List ℕ
  pub divisor : ℕ

-- The number before a is fuel; b itself is enough, since over a prime field remainders fall.
abbrev pub chain_in : ℕ → ℕ → ℕ → ℕ → Chain
chain_in p zero a b = record { quotients = []; divisor = a }
chain_in p (suc k) a zero = record { quotients = []; divisor = a }
chain_in p (suc k) a (suc b) =
    let rest : Chain = chain_in p k (suc b) (divide p a (suc b)).remainder in
    record { quotients = (divide p a (suc b)).quotient ∷ rest.quotients; divisor = rest.divisor }

unfoldable pub chain : ℕ → ℕ → ℕ → Chain
chain p a b = chain_in p b a b

pub record Pair : Type 0 where
  pub f : ℕ
  pub g : ℕ

-- A division undone: the quotient q turns (r, s) into (q × r + s, r).
abbrev pub back : ℕ → ℕ → Pair → Pair
back p q two = record { f = add p (mul p q two.f) two.g; g = two.f }
