-- The monic codes of a degree whose constant term is not 0, and which of them are coprime to a code.
use Rattle.std.specs.Prelude.{ℕ, ◌+◌, ◌*◌, ◌%◌, ◌^◌, Bool, cond, not, List, eqb, ltb}
use Rattle.loops.specs.Loops.{numbers, filter}
use Rattle.poly.specs.Code.{degree}
use Rattle.poly.specs.Coprime.{gcd}
use Rattle.poly.specs.Limits.{outside}
use Rattle.codes.specs.Sets.{set_of}

-- Those of degree n over the field of p elements, rising.
unfoldable pub monic_codes : ℕ → ℕ → List ℕ
monic_codes p n = filter (λ code. not (eqb (code % p) 0)) (numbers (p ^ n) (p ^ n))

-- Whether two codes that are not both 0 are coprime: their greatest common divisor is a constant. `TestClaim` ties it to `Coprime`.
unfoldable pub coprime : ℕ → ℕ → ℕ → Bool
coprime p f g = ltb (gcd p f g) p

-- The indices, in that list, of the codes that are coprime to f.
unfoldable pub coprime_set : ℕ → ℕ → ℕ → ℕ
coprime_set p n f = set_of (coprime p f) (monic_codes p n)

-- An odd binary code, from its half, rounded down.
abbrev pub from_half : ℕ → ℕ
from_half half = 2 * half + 1

-- The set for the code 2·half + 1 and its own degree, if that is 1 to 6; else 0.
unfoldable pub coprimes_of : ℕ → ℕ
coprimes_of half = cond (outside 1 63 half) 0 (coprime_set 2 (degree 2 (from_half half)) (from_half half))
