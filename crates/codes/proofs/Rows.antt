-- The table of coprime codes, computed from the definition at once.
use Prim.Native.Nat.{ℕ}
use mathlib.Core.List.{List, [], ◌∷◌, map}
use mathlib.Core.Path.{◌≡◌, refl}
use Rattle.loops.specs.Loops.{numbers}
use Rattle.poly.specs.Code.{add, scale, degree}
use Rattle.poly.specs.Division.{inverse, bring_down, divide}
use Rattle.poly.specs.Coprime.{gcd}
use Rattle.poly.specs.Limits.{outside}
use Rattle.codes.specs.Codes.{monic_codes, coprime, coprime_set, coprimes_of}

unfoldable pub rows : List ℕ
rows =
    0 ∷ 0 ∷ 2 ∷ 1 ∷ 6 ∷ 13 ∷ 11 ∷ 6 ∷ 150 ∷ 253 ∷ 219 ∷ 150 ∷ 239 ∷ 146 ∷ 150 ∷ 127 ∷ 27030 ∷ 28349 ∷ 65531 ∷ 26774 ∷ 65519 ∷ 27030 ∷
    26772 ∷ 65407 ∷ 32437 ∷ 27030 ∷ 27030 ∷ 63487 ∷ 27028 ∷ 57343 ∷ 49151 ∷ 26772 ∷ 2252941590 ∷ 4294967293 ∷ 2146434555 ∷ 2523490710 ∷
    4294967279 ∷ 376006806 ∷ 2523490710 ∷ 2816195966 ∷ 2147221215 ∷ 105457938 ∷ 2523490710 ∷ 4294965247 ∷ 2523490710 ∷ 4294959103 ∷
    3889806718 ∷ 2255055254 ∷ 4294901759 ∷ 2523474326 ∷ 105457686 ∷ 4294443007 ∷ 376007058 ∷ 3889937790 ∷ 4290772991 ∷ 2523490710 ∷
    2523490710 ∷ 4261412863 ∷ 4227858431 ∷ 2252941590 ∷ 3889905022 ∷ 2523490710 ∷ 2523490582 ∷ 2146172123 ∷ []

pub computed : map coprimes_of (numbers 0 64) ≡ rows
unfolding rows coprimes_of coprime_set coprime monic_codes gcd divide bring_down inverse add scale degree outside
computed = refl
