-- The square of a polynomial (document 01, "Squares and sheets", for p = 2): its symbol at a row and a column, each below p^n.
use Rattle.std.specs.Prelude.{ℕ, zero, suc, ◌+◌, ◌*◌, ◌%◌, List, [], ◌∷◌, ◌++◌, get_or}
use Rattle.poly.specs.Code.{digit}
use Rattle.squares.specs.Squares.{Square}

-- The k lowest digits of a number, highest first.
abbrev pub digits : ℕ → ℕ → ℕ → List ℕ
digits p zero a = []
digits p (suc k) a = digit p a k ∷ digits p k a

-- The number with the digits h 0 to h (k - 1), highest first.
abbrev pub from_digits : ℕ → ℕ → (ℕ → ℕ) → ℕ
from_digits p zero h = 0
from_digits p (suc k) h = from_digits p k h * p + h k

-- h 0 + h 1 + .. + h (k - 1).
abbrev pub sum_below : ℕ → (ℕ → ℕ) → ℕ
sum_below zero h = 0
sum_below (suc k) h = h 0 + sum_below k (λ j. h (suc j))

-- A line has 2n cells: the digits of the row number, highest first, then those of the column number.
abbrev pub line : ℕ → ℕ → ℕ → ℕ → List ℕ
line p n row col = digits p n row ++ digits p n col

-- Output cell i: the sum modulo p of coefficient j times cell i + j, j from 0 to n. For p = 2: the parity of the ones.
unfoldable pub output_cell : ℕ → ℕ → ℕ → List ℕ → ℕ → ℕ
output_cell p n f cells i = sum_below (suc n) (λ j. digit p f j * get_or cells (i + j) 0) % p

-- Output cell 0 is the symbol's highest digit.
unfoldable pub symbol : ℕ → ℕ → ℕ → Square
symbol p n f row col = from_digits p n (output_cell p n f (line p n row col))
