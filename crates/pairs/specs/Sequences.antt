-- The quotient sequences of document 01, "The list", in its order. Quotient 1 comes first.
use Rattle.std.specs.Prelude.{ℕ, zero, suc, ◌+◌, ◌-◌, ◌*◌, ◌/◌, ◌%◌, ◌^◌, Bool, true, false, List, [], ◌∷◌, map}
use Rattle.loops.specs.Loops.{numbers, each}
use Rattle.pairs.specs.Words.{words}

-- The lists of k degrees, each at least 1, with sum n, in rising dictionary order: the first degree rises from 1 to n.
unfoldable pub compositions : ℕ → ℕ → List (List ℕ)
compositions zero zero = [] ∷ []
compositions (suc n) zero = []
compositions n (suc k) = each (numbers 1 n) (λ d. map (◌∷◌ d) (compositions (n - d) k))

-- How many intermediate bits quotients of these degrees have: d - 1 for each degree d.
abbrev pub bits : List ℕ → ℕ
bits [] = 0
bits (d ∷ ds) = d - 1 + bits ds

-- A letter as a number.
abbrev pub bit : Bool → ℕ
bit false = 0
bit true = 1

-- Quotient i has degree di, its intermediate bits and letter i as constant term. The intermediate bits of all of them are those of the
-- number b, highest first: the highest d - 1 belong to the first quotient, from x^(d-1) down to x.
abbrev pub quotients : List ℕ → ℕ → List Bool → List ℕ
quotients [] b w = []
quotients (d ∷ ds) b [] = []
quotients (d ∷ ds) b (l ∷ w) = (2 ^ d + b / 2 ^ bits ds * 2 + bit l) ∷ quotients ds (b % 2 ^ bits ds) w

-- The sequences of k quotients: the compositions, the intermediate bits as a rising number, the words.
unfoldable pub block : ℕ → ℕ → List (List ℕ)
block n k = each (compositions n k) (λ ds. each (numbers 0 (2 ^ (n - k))) (λ b. map (quotients ds b) (words k)))

-- All of them: k from 2 to n.
unfoldable pub sequences : ℕ → List (List ℕ)
sequences n = each (numbers 2 (n - 1)) (block n)
