-- What is shown of the squares, for every prime p and every degree n: they are Latin squares, and orthogonal exactly for coprime codes;
-- and of the bytes of a sheet.
use Rattle.std.specs.Prelude.{◌↔◌, ◌≢◌, List, [], ◌∷◌, ◌≡◌, ℕ, ◌%◌, ◌^◌, ◌≤◌, ◌<◌, length, get_or}
use Rattle.reply.specs.Reply.{served}
use Rattle.poly.specs.Code.{HasDegree}
use Rattle.poly.specs.Division.{HasInverses}
use Rattle.poly.specs.Coprime.{Coprime}
use Rattle.squares.specs.Squares.{Square, Latin, Orthogonal}
use Rattle.squares.specs.Symbols.{symbol}
use Rattle.squares.specs.Sheets.{shown}
use Rattle.squares.specs.Replies.{site_reply, sheet_reply_of, sheet_bytes_of, sheet_reply, sheet_bytes}
use Rattle.squares.specs.PairSheet.{pair_sheet_reply, pair_sheet_bytes}

-- The square of a code of degree n with a nonzero constant term is a Latin square of order p^n.
abbrev pub LatinClaim : Type 0
LatinClaim =
    (p : ℕ) → 2 ≤ p → HasInverses p → (n f : ℕ) → HasDegree p n f → 0 < f % p
    → Latin (p ^ n) (symbol p n f)

-- The squares of two codes of degree n, laid together, show each pair of symbols at exactly one site if the codes are coprime, and only
-- then.
abbrev pub OrthogonalClaim : Type 0
OrthogonalClaim =
    (p : ℕ) → 2 ≤ p → HasInverses p → (n f g : ℕ) → HasDegree p n f → HasDegree p n g
    → Orthogonal (p ^ n) (symbol p n f) (symbol p n g) ↔ Coprime p f g

-- The sheet call of two codes is document 01's.
abbrev pub PairClaim : Type 0
PairClaim =
    (n f g : ℕ) → ((len : ℕ) → sheet_reply n f g len ≡ pair_sheet_reply n f g len)
    × ((lent : List ℕ) → sheet_bytes n f g lent ≡ pair_sheet_bytes n f g lent)

-- What a sheet call writes is the squares laid together: byte k of a site of a served sheet is what the site call gives for code k.
abbrev pub SheetClaim : Type 0
SheetClaim =
    (n : ℕ) (codes lent : List ℕ) → sheet_reply_of n codes (length lent) ≡ served []
    → (k l row col : ℕ) → k < length codes → l < length codes → row < 2 ^ n → col < 2 ^ n
    → let square : ℕ → Square = λ (k : ℕ). shown (length codes) (2 ^ n) k (sheet_bytes_of n codes lent) in
    site_reply n (get_or codes k 0) (get_or codes l 0) row col ≡ served (square k row col ∷ square l row col ∷ [])

-- The bytes of a sheet of order N show mutually orthogonal Latin squares, one for each of the `width` bytes a site.
pub record SquaresShown (width N : ℕ) (bytes : List ℕ) : Type 0 where
  pub latin : (k : ℕ) → k < width → Latin N (shown width N k bytes)
  pub orthogonal : (k l : ℕ) → k < width → l < width → k ≢ l → Orthogonal N (shown width N k bytes) (shown width N l bytes)

-- A served sheet is as many mutually orthogonal Latin squares as it has codes: two or, by document 02's request e, three.
abbrev pub SquaresClaim : Type 0
SquaresClaim =
    (n : ℕ) (codes lent : List ℕ)
    → sheet_reply_of n codes (length lent) ≡ served [] → SquaresShown (length codes) (2 ^ n) (sheet_bytes_of n codes lent)
