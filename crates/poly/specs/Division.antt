-- Division with remainder over the field of p elements, p a prime.
use Rattle.std.specs.Prelude.{◌≡◌, ℕ, zero, suc, ◌+◌, ◌-◌, ◌*◌, ◌/◌, ◌%◌, ◌^◌, ◌<◌}
use Rattle.poly.specs.Code.{fold, add, scale, degree}

-- The inverse of a nonzero digit modulo the prime p, by Fermat: d^(p-1) is 1.
unfoldable pub inverse : ℕ → ℕ → ℕ
inverse p d = d ^ (p - 2) % p

-- What the laws of division ask of p; the primes have it.
abbrev pub HasInverses : ℕ → Type 0
HasInverses p = (d : ℕ) → 0 < d → d < p → d * inverse p d % p ≡ 1

pub record Division : Type 0 where
  pub quotient : ℕ
  pub remainder : ℕ

-- One step of long division by b, of degree n: bring down the digit d, and take b away c times, where c clears the digit of x^n.
unfoldable pub bring_down : ℕ → ℕ → ℕ → Division → Division
bring_down p b d so_far =
    let r : ℕ = so_far.remainder * p + d in
    let n : ℕ = degree p b in
    let c : ℕ = (r / p ^ n) * inverse p (b / p ^ n) % p in
    record { quotient = so_far.quotient * p + c; remainder = add p r (scale p (p - c) b) }

-- a by b, over the digits of a from the top. By 0: quotient 0, remainder a.
unfoldable pub divide : ℕ → ℕ → ℕ → Division
divide p a zero = record { quotient = zero; remainder = a }
divide p a (suc b) = fold p (record { quotient = zero; remainder = zero }) (bring_down p (suc b)) a
