-- Worked examples of the definitions, by computation: source document 000's and 003's over two elements, and some over three and five.
use mathlib.Core.Path.{◌≡◌, refl}
use Prim.Native.Nat.{◌^◌}
use Rattle.poly.specs.Code.{add, scale, mul, degree}
use Rattle.poly.specs.Division.{inverse, bring_down, divide}
use Rattle.poly.specs.Coprime.{gcd}

-- Document 01: 11 is x^3 + x + 1. Source document 003: 283 is x^8 + x^4 + x^3 + x + 1.
pub codes : (add 2 (2 ^ 3) (add 2 2 1) ≡ 11) × (degree 2 11 ≡ 3) × (degree 2 283 ≡ 8)
unfolding add degree
codes = (refl, refl, refl)

-- Source document 000: x^3 + x^2 + x + 1 is (x + 1)^3, and x^3 + 1 is (x + 1)(x^2 + x + 1).
pub products : (mul 2 3 (mul 2 3 3) ≡ 15) × (mul 2 3 7 ≡ 9)
unfolding mul add scale
products = (refl, refl)

-- Source document 003: x^2 + x + 1 by x + 1 is x, remainder 1.
pub quotients : divide 2 7 3 ≡ record { quotient = 2; remainder = 1 }
unfolding divide bring_down inverse degree add scale
quotients = refl

-- Source document 000: (x^3 + x^2 + x + 1, x^3 + 1) has the greatest common divisor x + 1; (x^3 + x + 1, x^3 + x^2) is coprime.
pub divisors : (gcd 2 15 9 ≡ 3) × (gcd 2 11 12 ≡ 1)
unfolding gcd divide bring_down inverse degree add scale
divisors = (refl, refl)

-- Over three elements (x + 2)^2 = x^2 + x + 1; over five, x^2 + 1 = (x + 2)(x + 3), and x + 2 divides it.
pub other_primes : (mul 3 5 5 ≡ 13) × (mul 5 7 8 ≡ 26) × (divide 5 26 7 ≡ record { quotient = 8; remainder = 0 })
unfolding mul add scale divide bring_down inverse degree
other_primes = (refl, refl, refl)
