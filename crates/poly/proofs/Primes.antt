-- The primes 2, 3 and 5 have inverses: one computed test over the digits.
use mathlib.Core.Path.{◌≡◌}
use mathlib.Core.Logic.{◌⊎◌, inl, inr}
use Prim.Native.Nat.{ℕ, zero, suc, ◌*◌, ◌%◌, ◌<◌}
use native.Mathlib.Nat.{eq-or-lt_of_le, le_of_suc-le-suc}
use native.Mathlib.Omega.{arith}
use lib.Dec.{T, eqb, eqb→eq}
use Rattle.poly.specs.Division.{inverse, HasInverses}

-- the test passes at each digit from 1 to n
tested : ℕ → ℕ → Type 0
tested p zero = Unit {0}
tested p (suc n) = T (eqb (suc n * inverse p (suc n) % p) 1) × tested p n

each : (p n : ℕ) → tested p n → (d : ℕ) → 0 < d → d < suc n → d * inverse p d % p ≡ 1
unfolding tested
each p zero t d pos lt = absurd (omega arith)
each p (suc n) (now, rest) d pos lt = go (each p n rest d pos) (eq-or-lt_of_le (le_of_suc-le-suc lt))
  where
    go : (d < suc n → d * inverse p d % p ≡ 1) → (d ≡ suc n) ⊎ (d < suc n) → d * inverse p d % p ≡ 1
    go ih (inl e) = rw e (eqb→eq (suc n * inverse p (suc n) % p) 1 now)
    go ih (inr l) = ih l

pub inverses_2 : HasInverses 2
unfolding tested inverse
inverses_2 = each 2 1 (tt, tt)

pub inverses_3 : HasInverses 3
unfolding tested inverse
inverses_3 = each 3 2 (tt, (tt, tt))

pub inverses_5 : HasInverses 5
unfolding tested inverse
inverses_5 = each 5 4 (tt, (tt, (tt, (tt, tt))))
