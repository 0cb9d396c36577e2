-- The sheet of two codes in document 01's own words ("Squares and sheets", "Turned down"): two bytes a site, symbol of f then of g; the
-- causes in their order; and the bytes lent. The sheet call is shown to be this (`PairClaim`).
use Rattle.std.specs.Prelude.{ℕ, ◌*◌, ◌^◌, List, [], ◌∷◌, ◌++◌, ltb, length, drop}
use Rattle.reply.specs.Reply.{Reply, served, Cause, ◌gives◌, unless, after}
use Rattle.poly.specs.Causes.{sheet_degree_cause, code_causes, common_factor}
use Rattle.squares.specs.Symbols.{symbol}
use Rattle.squares.specs.Sheets.{each_below}

abbrev pub pair_sheet_causes : ℕ → ℕ → ℕ → ℕ → List Cause
pair_sheet_causes n f g len =
    sheet_degree_cause n ∷ code_causes n f ++ code_causes n g ++ (common_factor f g ∷ []) ++ (ltb len (2 * 4 ^ n) gives 4 ∷ [])

abbrev pub pair_sheet_reply : ℕ → ℕ → ℕ → ℕ → Reply
pair_sheet_reply n f g len = unless (pair_sheet_causes n f g len) (served [])

abbrev pub pair_sheet : ℕ → ℕ → ℕ → List ℕ
pair_sheet n f g = each_below (2 ^ n) (λ row. each_below (2 ^ n) (λ col. symbol 2 n f row col ∷ symbol 2 n g row col ∷ []))

-- It fills the first 2 × 4^n bytes lent; the rest stays, and all of them where the call is refused.
abbrev pub pair_sheet_bytes : ℕ → ℕ → ℕ → List ℕ → List ℕ
pair_sheet_bytes n f g lent = after (pair_sheet_reply n f g (length lent)) (pair_sheet n f g ++ drop (2 * 4 ^ n) lent) lent
