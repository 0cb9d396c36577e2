-- The bytes of a sheet (document 01, "Squares and sheets").
use Rattle.std.specs.Prelude.{ℕ, zero, suc, ◌+◌, ◌*◌, List, [], ◌++◌, map, get_or}
use Rattle.squares.specs.Squares.{Square}

-- h 0, then h 1, .., then h (k - 1).
abbrev pub each_below : ℕ → (ℕ → List ℕ) → List ℕ
each_below zero h = []
each_below (suc k) h = each_below k h ++ h k

-- A site's bytes, the symbols of the squares one after the other; a row's; and, row by row, those of the sheet of order N.
abbrev pub site_bytes : List Square → ℕ → ℕ → List ℕ
site_bytes squares row col = map (λ (square : Square). square row col) squares

abbrev pub row_bytes : ℕ → List Square → ℕ → List ℕ
row_bytes N squares row = each_below N (site_bytes squares row)

unfoldable pub sheet : ℕ → List Square → List ℕ
sheet N squares = each_below N (row_bytes N squares)

-- The square that byte k of each site shows, in the bytes of a sheet of order N with `width` bytes a site: square k, counted from 0.
unfoldable pub shown : ℕ → ℕ → ℕ → List ℕ → Square
shown width N k bytes row col = get_or bytes (width * (row * N + col) + k) 0
