-- The claims about squares, from their theorems; the sheet call of two codes is document 01's by computation.
use mathlib.Core.Path.{refl}
use Rattle.poly.specs.Causes.{code_causes}
use Rattle.squares.specs.Sheets.{sheet}
use Rattle.squares.specs.Replies.{sheet_of, sheet_reply_of, sheet_bytes_of}
use Rattle.squares.specs.Claims.{LatinClaim, OrthogonalClaim, PairClaim, SheetClaim, SquaresClaim}
use Rattle.squares.proofs.Latin.{latin}
use Rattle.squares.proofs.Orthogonal.{orthogonal_coprime}
use Rattle.squares.proofs.Served.{sheet_site, shows_squares}

pub squares_latin : LatinClaim
squares_latin p p2 inverses n f has constant = latin p p2 inverses n has constant

pub squares_orthogonal : OrthogonalClaim
squares_orthogonal p p2 inverses n f g has_f has_g = orthogonal_coprime p p2 inverses n has_f has_g

pub pair_sheet_lem : PairClaim
unfolding sheet_reply_of sheet_bytes_of sheet_of sheet code_causes
pair_sheet_lem n f g = ((λ len. refl), (λ lent. refl))

pub sheet_laid : SheetClaim
sheet_laid n codes lent is_served = sheet_site n codes lent is_served

pub sheet_squares : SquaresClaim
sheet_squares n codes lent is_served = shows_squares n codes lent is_served
