-- Loops as lists: rising numbers, all results of an inner loop in order, and what passes a test.
use Rattle.std.specs.Prelude.{ℕ, zero, suc, Bool, cond, List, [], ◌∷◌, ◌++◌}

-- The m numbers from a on, rising.
abbrev pub numbers : ℕ → ℕ → List ℕ
numbers a zero = []
numbers a (suc m) = a ∷ numbers (suc a) m

-- For each x of a list in order, all of f x.
abbrev pub each : {A B : Type 0} → List A → (A → List B) → List B
each [] f = []
each (x ∷ xs) f = f x ++ each xs f

-- Those of a list that pass the test, in order.
abbrev pub filter : {A : Type 0} → (A → Bool) → List A → List A
filter test [] = []
filter test (x ∷ xs) = cond (test x) (x ∷ filter test xs) (filter test xs)
