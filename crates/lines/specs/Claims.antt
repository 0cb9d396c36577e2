-- What is shown of filling lent bytes again and again, as the list program does.
use Rattle.std.specs.Prelude.{◌≡◌, ℕ, zero, suc, ◌+◌, ◌≤◌, cond, List, [], ◌∷◌, ◌++◌, eqb, length}
use Rattle.reply.specs.Reply.{served}
use Rattle.poly.specs.Limits.{list_length}
use Rattle.lines.specs.Input.{input_reply}
use Rattle.lines.specs.Output.{first_line, output}
use Rattle.lines.specs.Filling.{joined, filled}

-- Fillings of `room` bytes, each from the position where the one before stopped, until one is empty; `times` of them at most.
abbrev pub pieces : ℕ → ℕ → ℕ → ℕ → List ℕ
pieces zero n position room = []
pieces (suc times) n position room =
    let piece : List ℕ = joined (filled n position room) in
    cond (eqb (length piece) 0) [] (piece ++ pieces times n (position + length (filled n position room)) room)

-- For an input that asks for degree n, the first line and the fillings from position 0 on are all that is to be printed. Into 64 bytes
-- every line fits, so each filling but the last puts one at least, and no more are needed than the list has entries.
abbrev pub PrintClaim : Type 0
PrintClaim =
    (input : List ℕ) (n room times : ℕ) → input_reply input ≡ served (n ∷ []) → 64 ≤ room → list_length n ≤ times
    → first_line n ++ pieces times n 0 room ≡ output input
