-- Divisors, coprime polynomials, and the greatest common divisor by Euclid's algorithm.
use Rattle.std.specs.Prelude.{◌≡◌, ℕ, zero, suc, ◌<◌}
use Rattle.poly.specs.Code.{mul}
use Rattle.poly.specs.Division.{divide}

-- d divides a.
abbrev pub Divides : ℕ → ℕ → ℕ → Type 0
Divides p d a = (q : ℕ) × (mul p q d ≡ a)

-- Document 01: f and g are coprime if no polynomial of degree 1 or more divides both; that is, every common divisor is below p.
abbrev pub Coprime : ℕ → ℕ → ℕ → Type 0
Coprime p f g = (d : ℕ) → Divides p d f → Divides p d g → d < p

-- The greatest common divisor by Euclid's algorithm: divisor by remainder, until the remainder is 0. It divides both codes and is a
-- combination of them (the law `bezout`). The number before a is fuel; b itself is enough, since over a prime field remainders fall.
abbrev pub gcd_in : ℕ → ℕ → ℕ → ℕ → ℕ
gcd_in p zero a b = a
gcd_in p (suc k) a zero = a
gcd_in p (suc k) a (suc b) = gcd_in p k (suc b) (divide p a (suc b)).remainder

unfoldable pub gcd : ℕ → ℕ → ℕ → ℕ
gcd p a b = gcd_in p b a b
