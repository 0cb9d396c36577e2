-- The reply of the check of a sheet that was made elsewhere (document 02, request l).
use Rattle.std.specs.Prelude.{ℕ, ◌*◌, Bool, not, List, [], ◌∷◌, ltb, length, get_or}
use Rattle.reply.specs.Reply.{Reply, served, Cause, ◌gives◌, unless}
use Rattle.poly.specs.Limits.{outside}
use Rattle.squares.specs.Sheets.{shown}
use Rattle.sheets.specs.Counting.{all_below, is_graeco_latin}

-- How many bytes a sheet of order N has, two a site.
abbrev pub sheet_size : ℕ → ℕ
sheet_size N = 2 * (N * N)

-- Every byte of the sheet is a symbol, below N.
abbrev pub all_symbols : ℕ → List ℕ → Bool
all_symbols N bytes = all_below (sheet_size N) (λ i. ltb (get_or bytes i 0) N)

-- 26, order outside 3 to 64; 4, fewer bytes than the sheet has; 27, a symbol anywhere not below the order; 28, any other failure.
abbrev pub check_causes : ℕ → List ℕ → List Cause
check_causes N bytes =
    outside 3 64 N gives 26 ∷ ltb (length bytes) (sheet_size N) gives 4 ∷ not (all_symbols N bytes) gives 27
    ∷ not (is_graeco_latin N (shown 2 N 0 bytes) (shown 2 N 1 bytes)) gives 28 ∷ []

-- A sheet that passes is served with no values. Bytes behind the sheet are not looked at.
unfoldable pub check_sheet_reply : ℕ → List ℕ → Reply
check_sheet_reply N bytes = unless (check_causes N bytes) (served [])
