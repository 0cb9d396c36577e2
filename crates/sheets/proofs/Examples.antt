-- Small sheets, computed from the definition: good ones, and one for each way to fail.
use mathlib.Core.List.{List, [], ◌∷◌, ◌++◌, map}
use mathlib.Core.Path.{◌≡◌, refl}
use Prim.Native.Nat.{ℕ, ◌+◌, ◌*◌, ◌%◌}
use lib.ListN.{take, set}
use Rattle.reply.specs.Reply.{served, refused}
use Rattle.poly.specs.Limits.{outside}
use Rattle.squares.specs.Sheets.{sheet, shown}
use Rattle.sheets.specs.Replies.{check_sheet_reply}

-- The sheet of order N with the symbols a i + b j and c i + d j modulo N in row i and column j.
abbrev linear : ℕ → ℕ → ℕ → ℕ → ℕ → List ℕ
linear N a b c d = sheet N ((λ i j. (a * i + b * j) % N) ∷ (λ i j. (c * i + d * j) % N) ∷ [])

-- order 3, also with a byte behind the sheet; then order 5
pub good : (map (check_sheet_reply 3) (linear 3 1 1 1 2 ∷ (linear 3 1 1 1 2 ++ 255 ∷ []) ∷ [])) ≡ served [] ∷ served [] ∷ []
unfolding check_sheet_reply outside sheet shown
good = refl

pub order_5 : check_sheet_reply 5 (linear 5 1 1 1 2) ≡ served []
unfolding check_sheet_reply outside sheet shown
order_5 = refl

-- only the rows of the first square fail, only its columns, only the rows of the second, only its columns, only the pairs
pub fails : map (check_sheet_reply 5)
    (linear 5 1 0 1 1 ∷ linear 5 0 1 1 1 ∷ linear 5 1 1 1 0 ∷ linear 5 1 1 0 1 ∷ linear 5 1 1 1 1 ∷ [])
    ≡ refused 28 ∷ refused 28 ∷ refused 28 ∷ refused 28 ∷ refused 28 ∷ []
unfolding check_sheet_reply outside sheet shown
fails = refl

-- 26, 4 and 27 come before what is wrong besides; a byte that is missing is not taken for 0
pub refusals : (check_sheet_reply 2 [] ∷ check_sheet_reply 65 [] ∷ check_sheet_reply 3 (take 17 (linear 3 1 1 1 2))
    ∷ check_sheet_reply 5 (take 49 (set (linear 5 1 1 1 2) 0 5)) ∷ check_sheet_reply 5 (set (linear 5 1 1 1 1) 49 5) ∷ [])
    ≡ refused 26 ∷ refused 26 ∷ refused 4 ∷ refused 4 ∷ refused 27 ∷ []
unfolding check_sheet_reply outside sheet shown
refusals = refl
