-- A parser takes what it reads from the front of a list of bytes and hands on the rest, or refuses with a number of documents 01 and 02.
use Rattle.std.specs.Prelude.{ℕ, true, false, List, [], ◌∷◌, ltb, length}
use Rattle.reply.specs.Reply.{Cause, ◌gives◌}

-- What a parser answers: what it read and the bytes behind, or the number of the refusal.
pub data Parsed (A : Type 0) : Type 0 where
  parsed : A → List ℕ → Parsed A
  failed : ℕ → Parsed A

abbrev pub Parser : Type 0 → Type 0
Parser A = List ℕ → Parsed A

-- Takes nothing.
abbrev pub pure : {A : Type 0} → A → Parser A
pure value bytes = parsed value bytes

-- Hands what was read, and the rest, to the next parser.
abbrev pub resume : {A B : Type 0} → Parsed A → (A → Parser B) → Parsed B
resume (parsed value rest) next = next value rest
resume (failed number) next = failed number

-- One parser, then the next.
infixl 60 ◌>>=◌
abbrev pub ◌>>=◌ : {A B : Type 0} → Parser A → (A → Parser B) → Parser B
(first >>= next) bytes = resume (first bytes) next

-- The number of the first cause that applies, or else the parser.
abbrev pub barring : {A : Type 0} → List Cause → Parser A → Parser A
barring [] parser bytes = parser bytes
barring ((true gives number) ∷ causes) parser bytes = failed number
barring ((false gives number) ∷ causes) parser bytes = barring causes parser bytes

-- A parser whose value is refused for the causes given, in their order.
abbrev pub checked : {A : Type 0} → Parser A → (A → List Cause) → Parser A
checked parser causes = parser >>= λ value. barring (causes value) (pure value)

-- 17: bytes behind what was read.
unfoldable pub parse_end : {A : Type 0} → A → Parser A
parse_end value rest = barring (ltb 0 (length rest) gives 17 ∷ []) (pure value) rest
