-- Sets of indices as numbers: bit k tells whether k is a member.
use Rattle.std.specs.Prelude.{ℕ, zero, suc, ◌+◌, ◌*◌, ◌/◌, ◌%◌, Bool, cond, List, [], ◌∷◌, eqb}

-- The indices of those entries of a list that pass a test.
abbrev pub set_of : (ℕ → Bool) → List ℕ → ℕ
set_of test [] = 0
set_of test (x ∷ xs) = set_of test xs * 2 + cond (test x) 1 0

-- The members of a set below m, rising, each with a added to it.
abbrev pub members_from : ℕ → ℕ → ℕ → List ℕ
members_from a zero set = []
members_from a (suc m) set =
    let rest : List ℕ = members_from (suc a) m (set / 2) in
    cond (eqb (set % 2) 1) (a ∷ rest) rest

-- The members of a set of numbers below 32, rising.
unfoldable pub members : ℕ → List ℕ
members set = members_from 0 32 set
