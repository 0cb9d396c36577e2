-- Constant words (document 01, "Words"). A letter is a constant term: false is 0, true is 1.
use Rattle.std.specs.Prelude.{ℕ, zero, suc, ◌+◌, ◌^◌, Bool, true, false, cond, List, [], ◌∷◌, ◌++◌, map, ltb, length}
use Rattle.loops.specs.Loops.{filter}

-- The constant terms of the two remainders: (1,0), (1,1), (0,1).
pub data State : Type 0 where
  s10 : State
  s11 : State
  s01 : State

-- From (1,0): 0 goes to (0,1), 1 to (1,1). From (1,1): 0 stays, 1 goes to (0,1). From (0,1): either letter goes to (1,0).
abbrev pub step : State → Bool → State
step s10 false = s01
step s10 true = s11
step s11 false = s11
step s11 true = s01
step s01 false = s10
step s01 true = s10

-- The state after a word.
abbrev pub run : State → List Bool → State
run s [] = s
run s (l ∷ w) = run (step s l) w

abbrev pub is10 : State → Bool
is10 s10 = true
is10 s11 = false
is10 s01 = false

-- The word leads from the state to (1,0).
abbrev pub leads : State → List Bool → Bool
leads s w = is10 (run s w)

-- A word is kept if it leads from (1,0) to (1,0).
abbrev pub kept : List Bool → Bool
kept w = leads s10 w

-- All words of k letters in dictionary order, 0 before 1.
abbrev pub all_words : ℕ → List (List Bool)
all_words zero = [] ∷ []
all_words (suc k) = map (◌∷◌ false) (all_words k) ++ map (◌∷◌ true) (all_words k)

-- The words of m letters that lead from a state to (1,0), in that order.
unfoldable pub words_from : State → ℕ → List (List Bool)
words_from s m = filter (leads s) (all_words m)

-- The kept words of k letters.
abbrev pub words : ℕ → List (List Bool)
words k = words_from s10 k

-- How many there are, in a table that ends at 31 letters; 0 past its end.
unfoldable pub tabled : ℕ → ℕ
tabled k = cond (ltb k 32) (length (words k)) 0

-- A word as a binary number, first letter highest, as the readers of words give it.
abbrev pub as_number : List Bool → ℕ
as_number [] = 0
as_number (false ∷ w) = as_number w
as_number (true ∷ w) = 2 ^ length w + as_number w
