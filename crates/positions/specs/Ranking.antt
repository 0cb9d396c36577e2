-- What the functions behind the position call say to each other: where a word, a composition or a sequence stands in its list. This is how
-- the call works, not what it promises.
use Rattle.std.specs.Prelude.{ℕ, zero, suc, ◌/◌, ◌%◌, ◌^◌, ◌<◌, ◌≡◌, Bool, List, [], ◌∷◌, map, length, get_or, eqb}
use Rattle.poly.specs.Code.{degree}
use Rattle.pairs.specs.Sequences.{bits, quotients, sequences}

-- x stands at index r of a list.
pub record StandsAt {A : Type 0} (xs : List (List A)) (r : ℕ) (x : List A) : Type 0 where
  pub below : r < length xs
  pub is : get_or xs r [] ≡ x

-- x stands somewhere in the list.
abbrev pub Among : {A : Type 0} → List (List A) → List A → Type 0
Among xs x = (r : ℕ) × StandsAt xs r x

-- The word of m letters that are the last m binary digits of a number, the first letter highest.
abbrev pub last_letters : ℕ → ℕ → List Bool
last_letters zero x = []
last_letters (suc m) x = eqb (x / 2 ^ m % 2) 1 ∷ last_letters m x

-- The entries k to 1 of a chain: its quotients from the last one on, without the leading one.
abbrev pub backwards : List ℕ → ℕ → List ℕ
backwards chain zero = []
backwards chain (suc k) = get_or chain (suc k) 0 ∷ backwards chain k

-- One of the sequences of some degree up to 31.
abbrev pub Sequence : List ℕ → Type 0
Sequence qs = (n : ℕ) × (n < 32) × Among (sequences n) qs

-- The quotients have the intermediate bits b and the word x, each as a number.
pub record Parts (qs : List ℕ) (b x : ℕ) : Type 0 where
  pub fit : b < 2 ^ bits (map (degree 2) qs)
  pub give : quotients (map (degree 2) qs) b (last_letters (length qs) x) ≡ qs
