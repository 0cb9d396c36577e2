-- The lines that the list program prints, as lists of bytes.
use Rattle.std.specs.Prelude.{◌≡◌, ℕ, zero, suc, ◌+◌, ◌/◌, ◌%◌, ◌≤◌, List, [], ◌∷◌, ◌++◌, length, take, drop}
use Rattle.reply.specs.Reply.{Reply, served, refused, spent}

-- The decimal digits of a number, in ASCII, where 0 has none. The first number is fuel; the number itself is enough.
abbrev pub digits_in : ℕ → ℕ → List ℕ
digits_in zero n = []
digits_in (suc k) zero = []
digits_in (suc k) (suc n) = digits_in k (suc n / 10) ++ ((48 + suc n % 10) ∷ [])

-- The decimal digits of a number: those of a tenth of it, then the last one, which 0 has too.
unfoldable pub decimal : ℕ → List ℕ
decimal n = digits_in n (n / 10) ++ ((48 + n % 10) ∷ [])

-- Numbers in decimal, separated by spaces and ended by a newline.
abbrev pub line : List ℕ → List ℕ
line [] = 10 ∷ []
line (n ∷ []) = decimal n ++ (10 ∷ [])
line (n ∷ m ∷ rest) = decimal n ++ (32 ∷ line (m ∷ rest))

-- Bytes put into a slice at a position, where there is room for them.
unfoldable pub put : List ℕ → ℕ → List ℕ → List ℕ
put out at bytes = take at out ++ bytes ++ drop (at + length bytes) out

-- The bytes are put at the position; the answer is the position behind them.
pub record Placed (out : List ℕ) (at : ℕ) (bytes : List ℕ) (r : ℕ) (out' : List ℕ) : Type 0 where
  pub next : r ≡ at + length bytes
  pub after : out' ≡ put out at bytes

-- `&xs[..n]` is within the slice and has n bytes.
abbrev pub IsPrefixLen : ℕ → List ℕ → Type 0
IsPrefixLen n xs = (n ≤ length xs) × (n ≡ length (take n xs))

-- What a function that makes lines promises: the bytes stand at the front of `out`, and the answer is how many there are.
pub record Lined (out bytes : List ℕ) (r : ℕ) (out' : List ℕ) : Type 0 where
  pub size : r ≡ length bytes
  pub content : out' ≡ put out 0 bytes
  pub within : IsPrefixLen r out'

-- "refused " in ASCII.
abbrev pub refused_text : List ℕ
refused_text = 114 ∷ 101 ∷ 102 ∷ 117 ∷ 115 ∷ 101 ∷ 100 ∷ 32 ∷ []

-- The line of a reply: a first number and the values, or the refusal.
abbrev pub reply_line : ℕ → Reply → List ℕ
reply_line first (served values) = line (first ∷ values)
reply_line first (refused number) = refused_text ++ line (number ∷ [])
reply_line first spent = []
