-- What the functions behind `fill_lines` say to each other. This is how the call works, not what it promises.
use Rattle.std.specs.Prelude.{◌≡◌, ℕ, ◌+◌, ◌-◌, ◌*◌, List, [], ◌∷◌, map, length, get_or, take, drop}
use Rattle.loops.specs.Loops.{numbers}
use Rattle.lines.specs.Text.{line, Placed}
use Rattle.lines.specs.Filling.{joined, fitting_lines, entry_lines}

-- Lines from a position on were put behind the first `used` bytes, as many as fit there.
pub record Adds (lines : List (List ℕ)) (position : ℕ) (out : List ℕ) (used used' next : ℕ) (out' : List ℕ) : Type 0 where
  pub bytes : Placed out used (joined (fitting_lines (length out - used) lines)) used' out'
  pub stop : next ≡ position + length (fitting_lines (length out - used) lines)

-- The same of one line.
pub record AddsLine (l out : List ℕ) (used used' : ℕ) (out' : List ℕ) : Type 0 where
  pub bytes : Placed out used (joined (fitting_lines (length out - used) (l ∷ []))) used' out'

-- The lines of the next 256 positions, or as many as there are.
abbrev pub block_lines : ℕ → ℕ → List (List ℕ)
block_lines n position = take 256 (drop position (entry_lines n))

-- From the codes of the pairs from a position on: the line of the i-th of them, and the lines of all.
abbrev pub line_from : ℕ → List ℕ → ℕ → List ℕ
line_from position codes i = line ((position + i) ∷ get_or codes (2 * i) 0 ∷ get_or codes (2 * i + 1) 0 ∷ [])

abbrev pub lines_from : ℕ → ℕ → List ℕ → List (List ℕ)
lines_from position many codes = map (line_from position codes) (numbers 0 many)
