-- Document 01, "Trial file", as document 02, request a, has it: the levels of a list differ from each other.
use Rattle.std.specs.Prelude.{ℕ, Bool, false, ◌||◌, List, [], ◌∷◌, leb, eqb}

-- Whether a level may not follow those before it, of which the nearest is listed first.
abbrev pub Rule : Type 0
Rule = List ℕ → ℕ → Bool

-- Some level of a list may not follow those before it; `before` is what stands before the whole list.
abbrev pub any_barred : Rule → List ℕ → List ℕ → Bool
any_barred barred before [] = false
any_barred barred before (level ∷ levels) = barred before level || any_barred barred (level ∷ before) levels

-- A level is equal to one of those before it.
abbrev pub repeated : Rule
repeated [] level = false
repeated (previous ∷ earlier) level = eqb level previous || repeated earlier level

-- Some level of a list is equal to an earlier one.
abbrev pub repeats : List ℕ → Bool
repeats levels = any_barred repeated [] levels

-- Document 01's rule: a level is not above the one before it.
abbrev pub not_above : Rule
not_above [] level = false
not_above (previous ∷ earlier) level = leb level previous
