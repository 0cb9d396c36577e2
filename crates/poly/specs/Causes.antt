-- The papers' causes for a refusal that speak of a degree or of codes, with their numbers.
use Rattle.std.specs.Prelude.{ℕ, suc, ◌%◌, ◌^◌, Bool, not, ◌||◌, List, [], ◌∷◌, ◌++◌, map, leb, ltb, eqb}
use Rattle.reply.specs.Reply.{Cause, ◌gives◌}
use Rattle.poly.specs.Limits.{outside}
use Rattle.poly.specs.Coprime.{gcd}

-- 1: degree outside 1 to 31.
abbrev pub degree_cause : ℕ → Cause
degree_cause n = outside 1 31 n gives 1

-- 12: degree of a sheet, a trial file or the list of triples outside 2 to 6.
abbrev pub sheet_degree_cause : ℕ → Cause
sheet_degree_cause n = outside 2 6 n gives 12

-- The code has not degree n: `HasDegree 2 n` does not hold of it.
unfoldable pub off_degree : ℕ → ℕ → Bool
off_degree n code = ltb code (2 ^ n) || leb (2 ^ suc n) code

-- What a code is refused for at degree n: 6, not of that degree; 7, constant term 0.
unfoldable pub code_causes : ℕ → ℕ → List Cause
code_causes n code = off_degree n code gives 6 ∷ eqb (code % 2) 0 gives 7 ∷ []

-- 8: common factor, that is, not `Coprime 2 f g`; the law `coprime_one` ties the two.
abbrev pub common_factor : ℕ → ℕ → Cause
common_factor f g = not (eqb (gcd 2 f g) 1) gives 8

-- What each of several codes is refused for, one after the other. There are two of them, or three (document 02, request e).
abbrev pub own_causes : ℕ → List ℕ → List Cause
own_causes n [] = []
own_causes n (code ∷ codes) = code_causes n code ++ own_causes n codes

-- 8 for any two of several codes.
abbrev pub common_factors : List ℕ → List Cause
common_factors [] = []
common_factors (code ∷ codes) = map (common_factor code) codes ++ common_factors codes

-- What several codes, which must be pairwise coprime, are refused for at degree n: each for its own causes, then 8.
abbrev pub coprime_causes : ℕ → List ℕ → List Cause
coprime_causes n codes = own_causes n codes ++ common_factors codes
