-- Lent bytes filled with lines: as many whole lines as fit.
use Rattle.std.specs.Prelude.{◌≡◌, ℕ, ◌+◌, ◌-◌, cond, List, [], ◌∷◌, map, leb, length, drop}
use Rattle.loops.specs.Loops.{numbers, each}
use Rattle.poly.specs.Limits.{outside, list_length}
use Rattle.lines.specs.Text.{Lined}
use Rattle.lines.specs.Output.{entry_line}

abbrev pub joined : List (List ℕ) → List ℕ
joined lines = each lines (λ l. l)

-- The lines, in order, that fit into `room` bytes one behind the other, up to the first that does not.
abbrev pub fitting_lines : ℕ → List (List ℕ) → List (List ℕ)
fitting_lines room [] = []
fitting_lines room (l ∷ lines) = cond (leb (length l) room) (l ∷ fitting_lines (room - length l) lines) []

-- All lines of a degree's list but the first, in order. A degree outside 1 to 31 has none.
unfoldable pub entry_lines : ℕ → List (List ℕ)
entry_lines n = cond (outside 1 31 n) [] (map (entry_line n) (numbers 0 (list_length n)))

-- Those that fill `room` bytes from a position on.
unfoldable pub filled : ℕ → ℕ → ℕ → List (List ℕ)
filled n position room = fitting_lines room (drop position (entry_lines n))

-- They stand at the front of `out`; the answers are how many bytes they have, and the position behind them.
pub record Fills (n position : ℕ) (out : List ℕ) (used next : ℕ) (out' : List ℕ) : Type 0 where
  pub bytes : Lined out (joined (filled n position (length out))) used out'
  pub stop : next ≡ position + length (filled n position (length out))
