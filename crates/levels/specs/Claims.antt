-- What is shown of lists of levels.
use Rattle.std.specs.Prelude.{ℕ, ◌<◌, false, List, ◌↔◌, ◌≢◌, ◌≡◌, length, get_or}
use Rattle.levels.specs.Levels.{repeats}

-- Any two entries at different places differ.
abbrev pub Differ : List ℕ → Type 0
Differ levels = (i j : ℕ) → i < length levels → j < length levels → i ≢ j → get_or levels i 0 ≢ get_or levels j 0

-- So it is exactly where no level is equal to an earlier one.
abbrev pub DifferClaim : Type 0
DifferClaim = (levels : List ℕ) → (repeats levels ≡ false) ↔ Differ levels
