-- Document 01's entry for degree 2, pair (7,5): the rows of both squares.
use mathlib.Core.Path.{◌≡◌, refl}
use mathlib.Core.List.{List, [], ◌∷◌}
use Prim.Native.Nat.{ℕ}
use Rattle.squares.specs.Symbols.{output_cell, symbol}
use Rattle.squares.specs.Sheets.{each_below}

-- the rows of the square of f at degree 2, one after the other
rows : ℕ → List ℕ
rows f = each_below 4 (λ row. each_below 4 (λ col. symbol 2 2 f row col ∷ []))

square_7 : rows 7 ≡ 0 ∷ 1 ∷ 3 ∷ 2 ∷ 3 ∷ 2 ∷ 0 ∷ 1 ∷ 2 ∷ 3 ∷ 1 ∷ 0 ∷ 1 ∷ 0 ∷ 2 ∷ 3 ∷ []
unfolding rows symbol output_cell
square_7 = refl

square_5 : rows 5 ≡ 0 ∷ 1 ∷ 2 ∷ 3 ∷ 1 ∷ 0 ∷ 3 ∷ 2 ∷ 2 ∷ 3 ∷ 0 ∷ 1 ∷ 3 ∷ 2 ∷ 1 ∷ 0 ∷ []
unfolding rows symbol output_cell
square_5 = refl
