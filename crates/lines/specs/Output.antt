-- All that the list program prints for an input.
use Rattle.std.specs.Prelude.{ℕ, List, [], ◌∷◌, ◌++◌}
use Rattle.reply.specs.Reply.{Reply, served, refused, spent}
use Rattle.loops.specs.Loops.{numbers, each}
use Rattle.poly.specs.Limits.{list_length}
use Rattle.poly.specs.Replies.{length_reply}
use Rattle.pairs.specs.Replies.{pair_at_reply}
use Rattle.lines.specs.Input.{input_reply}
use Rattle.lines.specs.Text.{reply_line}

-- First line: degree and length.
abbrev pub first_line : ℕ → List ℕ
first_line n = reply_line n (length_reply n)

-- Then position, f, g.
abbrev pub entry_line : ℕ → ℕ → List ℕ
entry_line n position = reply_line position (pair_at_reply n position)

abbrev pub printed : Reply → List ℕ
printed (served (n ∷ rest)) = first_line n ++ each (numbers 0 (list_length n)) (entry_line n)
printed (served []) = []
printed (refused number) = reply_line 0 (refused number)
printed spent = []

abbrev pub output : List ℕ → List ℕ
output input = printed (input_reply input)
