-- The automaton's states are the constant terms of the two remainders: a quotient turns the one as it turns the other.
use mathlib.Core.Bool.{Bool, true, false}
use mathlib.Core.List.{List, [], ◌∷◌, map}
use mathlib.Core.Path.{◌≡◌, refl, sym, ap₂, ◌∙◌}
use Prim.Native.Nat.{ℕ, ◌+◌, ◌*◌, ◌%◌}
use native.Mathlib.Nat.{le_refl}
use Rattle.poly.specs.Code.{mul}
use Rattle.poly.proofs.Coefficients.{constant_add, constant_mul}
use Rattle.euclid.specs.Chain.{Pair}
use Rattle.pairs.specs.Words.{State, s10, s11, s01, step, run}
use Rattle.pairs.specs.Sequences.{bit}
use Rattle.pairs.specs.Pairs.{turn, turns}
use Rattle.pairs.proofs.Valid.{constant}
use Rattle.pairs.proofs.Quotients.{bit_constant}

-- a state's two constant terms
abbrev pub first : State → ℕ
first s10 = 1
first s11 = 1
first s01 = 0

abbrev pub second : State → ℕ
second s10 = 0
second s11 = 1
second s01 = 1

pub record Constants (s : State) (pair : Pair) : Type 0 where
  pub f : pair.f % 2 ≡ first s
  pub g : pair.g % 2 ≡ second s

steps : (s : State) (l : Bool) → (bit l * first s % 2 + second s) % 2 ≡ first (step s l)
steps s10 false = refl
steps s10 true = refl
steps s11 false = refl
steps s11 true = refl
steps s01 false = refl
steps s01 true = refl

stays : (s : State) (l : Bool) → first s ≡ second (step s l)
stays s10 false = refl
stays s10 true = refl
stays s11 false = refl
stays s11 true = refl
stays s01 false = refl
stays s01 true = refl

turned : (s : State) (q : ℕ) (pair : Pair) → Constants s pair → Constants (step s (constant q)) (turn pair q)
unfolding turn
turned s q pair c =
    record {
      f =
          constant_add 2 (le_refl 2) (mul 2 q pair.f) pair.g
          ∙ ap₂ (λ (u v : ℕ). (u + v) % 2)
          (constant_mul 2 (le_refl 2) q pair.f ∙ ap₂ (λ (u v : ℕ). u * v % 2) (sym (bit_constant q)) c.f) c.g
          ∙ steps s (constant q);
      g = c.f ∙ stays s (constant q);
    }

pub constants : (qs : List ℕ) (s : State) (pair : Pair) → Constants s pair → Constants (run s (map constant qs)) (turns pair qs)
constants [] s pair c = c
constants (q ∷ qs) s pair c = constants qs (step s (constant q)) (turn pair q) (turned s q pair c)
