-- The limits of document 01's numbers.
use Rattle.std.specs.Prelude.{ℕ, ◌-◌, ◌*◌, ◌/◌, ◌^◌, Bool, ◌||◌, ltb}

-- n is not one of low to high.
unfoldable pub outside : ℕ → ℕ → ℕ → Bool
outside low high n = ltb n low || ltb high n

-- The length of the list of coprime pairs of degree n.
abbrev pub list_length : ℕ → ℕ
list_length n = 2 * (4 ^ (n - 1) - 1) / 3
