-- What the site call and the sheet calls reply, and what the lent bytes hold after a sheet call.
use Rattle.std.specs.Prelude.{ℕ, ⊤, Result, ◌*◌, ◌^◌, Bool, ◌||◌, List, [], ◌∷◌, ◌++◌, map, leb, ltb, length, drop}
use Rattle.reply.specs.Answers.{answer_reply}
use Rattle.reply.specs.Reply.{Reply, served, Cause, ◌gives◌, unless, after}
use Rattle.reply.specs.declared.Refusal.{Refusal}
use Rattle.poly.specs.Causes.{degree_cause, sheet_degree_cause, code_causes, coprime_causes}
use Rattle.squares.specs.Symbols.{symbol}
use Rattle.squares.specs.Sheets.{sheet}
use Rattle.squares.specs.declared.Symbols.{Symbols}

-- Row or column is not below 2^n.
abbrev pub off_site : ℕ → ℕ → ℕ → Bool
off_site n row col = leb (2 ^ n) row || leb (2 ^ n) col

abbrev pub symbols_reply : Result Symbols Refusal → Reply
symbols_reply = answer_reply (λ symbols. symbols.first ∷ symbols.second ∷ [])

abbrev pub site_causes : ℕ → ℕ → ℕ → ℕ → ℕ → List Cause
site_causes n f g row col = degree_cause n ∷ code_causes n f ++ code_causes n g ++ (off_site n row col gives 5 ∷ [])

-- The site call gives both symbols.
unfoldable pub site_reply : ℕ → ℕ → ℕ → ℕ → ℕ → Reply
site_reply n f g row col = unless (site_causes n f g row col) (served (symbol 2 n f row col ∷ symbol 2 n g row col ∷ []))

abbrev pub laid_reply : Result ⊤ Refusal → Reply
laid_reply = answer_reply (λ _. [])

-- A sheet of several codes, which must be pairwise coprime, has one byte for each of them a site: two codes, or three (document 02, request
-- e).
abbrev pub sheet_causes : ℕ → List ℕ → ℕ → List Cause
sheet_causes n codes len = sheet_degree_cause n ∷ coprime_causes n codes ++ (ltb len (length codes * 4 ^ n) gives 4 ∷ [])

-- A sheet call has no values to give: the sheet stands in the lent bytes, of which the reply needs the length alone.
unfoldable pub sheet_reply_of : ℕ → List ℕ → ℕ → Reply
sheet_reply_of n codes len = unless (sheet_causes n codes len) (served [])

-- The sheet of the codes, of order 2^n.
unfoldable pub sheet_of : ℕ → List ℕ → List ℕ
sheet_of n codes = sheet (2 ^ n) (map (symbol 2 n) codes)

-- It fills the first bytes lent; the rest stays, and all of them where the call is refused.
unfoldable pub sheet_bytes_of : ℕ → List ℕ → List ℕ → List ℕ
sheet_bytes_of n codes lent = after (sheet_reply_of n codes (length lent)) (sheet_of n codes ++ drop (length codes * 4 ^ n) lent) lent

-- The sheet call, of two codes.
abbrev pub sheet_reply : ℕ → ℕ → ℕ → ℕ → Reply
sheet_reply n f g = sheet_reply_of n (f ∷ g ∷ [])

abbrev pub sheet_bytes : ℕ → ℕ → ℕ → List ℕ → List ℕ
sheet_bytes n f g = sheet_bytes_of n (f ∷ g ∷ [])

-- The sheet call of three codes.
abbrev pub sheet3_reply : ℕ → ℕ → ℕ → ℕ → ℕ → Reply
sheet3_reply n f g h = sheet_reply_of n (f ∷ g ∷ h ∷ [])

abbrev pub sheet3_bytes : ℕ → ℕ → ℕ → ℕ → List ℕ → List ℕ
sheet3_bytes n f g h = sheet_bytes_of n (f ∷ g ∷ h ∷ [])
