-- Document 01's list program: it reads one or two decimal digits and a newline; anything else, or a degree outside 1 to 10, gives 1.
use Rattle.std.specs.Prelude.{ℕ, Result, ◌+◌, ◌-◌, ◌*◌, Bool, not, ◌&&◌, List, [], ◌∷◌, leb, eqb}
use Rattle.reply.specs.Answers.{answer_reply}
use Rattle.reply.specs.Reply.{Reply, served, refused, unless, ◌gives◌}
use Rattle.poly.specs.Limits.{outside}
use Rattle.reply.specs.declared.Refusal.{Refusal}

abbrev pub asked_reply : Result ℕ Refusal → Reply
asked_reply = answer_reply (λ n. n ∷ [])

abbrev pub newline : ℕ
newline = 10

-- The ASCII codes of the digits 0 to 9.
unfoldable pub is_digit : ℕ → Bool
is_digit byte = leb 48 byte && leb byte 57

-- The number that two digits write.
abbrev pub numeral : ℕ → ℕ → ℕ
numeral tens ones = (tens - 48) * 10 + (ones - 48)

-- The degree that they ask for; the byte behind them must be a newline.
unfoldable pub numeral_reply : ℕ → ℕ → ℕ → Reply
numeral_reply tens ones end =
    unless
    (not (is_digit tens && is_digit ones && eqb end newline) gives 1 ∷ outside 1 10 (numeral tens ones) gives 1 ∷ [])
    (served (numeral tens ones ∷ []))

-- The whole input, byte by byte. A single digit writes what it writes behind a 0, whose code is 48.
abbrev pub input_reply : List ℕ → Reply
input_reply (ones ∷ end ∷ []) = numeral_reply 48 ones end
input_reply (tens ∷ ones ∷ end ∷ []) = numeral_reply tens ones end
input_reply [] = refused 1
input_reply (a ∷ []) = refused 1
input_reply (a ∷ b ∷ c ∷ d ∷ rest) = refused 1
