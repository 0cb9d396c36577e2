-- Swapped pairs, and the second list, in which each unordered pair stands once (document 02, request b).
use Rattle.std.specs.Prelude.{ℕ, ◌+◌, ◌-◌, ◌*◌, ◌/◌, ◌%◌, cond, eqb}
use Rattle.poly.specs.Limits.{list_length}
use Rattle.euclid.specs.Chain.{Pair}
use Rattle.pairs.specs.Pairs.{entry}

-- The polynomials of a pair swapped.
abbrev pub swap : Pair → Pair
swap pair = record { f = pair.g; g = pair.f }

-- The next position if j is even, the one before if j is odd.
unfoldable pub other : ℕ → ℕ
other j = cond (eqb (j % 2) 0) (j + 1) (j - 1)

-- Entry j of the second list of degree n: the pair at position 2j of the first.
abbrev pub unordered_entry : ℕ → ℕ → Pair
unordered_entry n j = entry n (2 * j)

-- How many entries it has: half the length of the first.
abbrev pub unordered_length : ℕ → ℕ
unordered_length n = list_length n / 2
