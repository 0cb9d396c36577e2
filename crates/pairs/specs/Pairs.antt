-- The list of pairs (document 01, "The list"): each sequence of quotients built up from (1, 0).
use Rattle.std.specs.Prelude.{◌≡◌, ℕ, suc, ◌%◌, cond, ◌&&◌, List, [], ◌∷◌, map, eqb, get_or}
use Rattle.poly.specs.Code.{HasDegree}
use Rattle.poly.specs.Coprime.{Coprime}
use Rattle.euclid.specs.Chain.{Pair, back}
use Rattle.pairs.specs.Sequences.{sequences}

-- A quotient q turns (r, s) into (q × r + s, r).
unfoldable pub turn : Pair → ℕ → Pair
turn rs q = back 2 q rs

abbrev pub turns : Pair → List ℕ → Pair
turns rs [] = rs
turns rs (q ∷ qs) = turns (turn rs q) qs

abbrev pub start : Pair
start = record { f = 1; g = 0 }

-- Start from (1, 0), take the quotients in order; a last quotient 1 follows.
unfoldable pub build : List ℕ → Pair
build qs = turn (turns start qs) 1

-- The list of degree n.
unfoldable pub pairs : ℕ → List Pair
pairs n = map build (sequences n)

-- The pair at a position of it, counted from 0; (1, 0) behind its end, where no call gives it.
abbrev pub entry : ℕ → ℕ → Pair
entry n j = get_or (pairs n) j start

-- Where a pair stands in a list, counted from 0; the list's length if it does not.
abbrev pub index_of : ℕ → ℕ → List Pair → ℕ
index_of f g [] = 0
index_of f g (pair ∷ rest) = cond (eqb pair.f f && eqb pair.g g) 0 (suc (index_of f g rest))

-- An ordered pair of coprime codes of degree n, both with constant term one.
pub record CoprimePair (n : ℕ) (pair : Pair) : Type 0 where
  pub degree_f : HasDegree 2 n pair.f
  pub degree_g : HasDegree 2 n pair.g
  pub odd_f : pair.f % 2 ≡ 1
  pub odd_g : pair.g % 2 ≡ 1
  pub coprime : Coprime 2 pair.f pair.g
