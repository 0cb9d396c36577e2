-- The codes that may stand at a degree, over the field of p elements: which they are, that they rise, and what the test of two codes tells.
use Prim.Native.Nat.{ℕ, zero, suc, ◌+◌, ◌%◌, ◌^◌, ◌≤◌, ◌<◌}
use native.Mathlib.Nat.{eq-zero-or-pos, le_refl}
use mathlib.Core.Bool.{not}
use mathlib.Core.List.{Memᴰ}
use mathlib.Core.Logic.{◌⊎◌, inl, inr}
use mathlib.Core.Path.{◌≡◌, refl, sym, ap, ◌∙◌}
use native.Mathlib.Omega.{arith}
use borrow.Author.Tests.{eqb-false, ne_eqb, lt-ltb, le-ltb, ltb-true, not-true}
use lib.Dec.{eqb, ltb}
use Rattle.loops.specs.Loops.{numbers}
use Rattle.loops.proofs.Members.{in_filter, filter_in, in_numbers, numbers_in}
use Rattle.loops.proofs.Rising.{Rises, rising_filter, rising_numbers}
use Rattle.poly.specs.Division.{HasInverses}
use Rattle.poly.specs.Coprime.{Divides, gcd}
use Rattle.poly.proofs.Divisor
use Rattle.poly.proofs.Primes.{inverses_2}
use Rattle.poly.proofs.Ring
use Rattle.codes.specs.Codes.{monic_codes, coprime}
use Rattle.codes.specs.Claims.{TestClaim}

-- What a code is known by.
pub record Standing (p n code : ℕ) : Type 0 where
  pub low : p ^ n ≤ code
  pub high : code < p ^ n + p ^ n
  pub constant : code % p ≡ 0 → ⊥

module _ (p n : ℕ) where
  pub in_codes : {code : ℕ} → Memᴰ code (monic_codes p n) → Standing p n code
  unfolding monic_codes
  in_codes {code} m =
      let (there, passes) = in_filter (λ code. not (eqb (code % p) 0)) (numbers (p ^ n) (p ^ n)) m in
      let (low, high) = in_numbers (p ^ n) (p ^ n) there in
      record { low = low; high = high; constant = eqb-false (code % p) 0 (not-true _ passes) }

  pub codes_in : {code : ℕ} → Standing p n code → Memᴰ code (monic_codes p n)
  unfolding monic_codes
  codes_in {code} s =
      filter_in (λ code. not (eqb (code % p) 0)) (numbers (p ^ n) (p ^ n)) (numbers_in (p ^ n) (p ^ n) s.low s.high)
      (ap not (ne_eqb (code % p) 0 s.constant))

  pub codes_rise : Rises ◌<◌ (monic_codes p n)
  unfolding monic_codes
  codes_rise = rising_filter ◌<◌ (λ code. not (eqb (code % p) 0)) (numbers (p ^ n) (p ^ n)) (rising_numbers (p ^ n) (p ^ n))

-- the greatest common divisor of a code that is not 0 is not 0 either
module _ (p : ℕ) (p2 : 2 ≤ p) (inverses : HasInverses p) (f g : ℕ) (some : 0 < f) where
  gcd_pos : 0 < gcd p f g
  gcd_pos = go (eq-zero-or-pos (gcd p f g)) (Divisor.bezout p p2 inverses f g).left
    where
      go : (gcd p f g ≡ 0) ⊎ (0 < gcd p f g) → Divides p (gcd p f g) f → 0 < gcd p f g
      go (inl e) (q, is) = let none : f ≡ 0 = sym is ∙ rw e (Ring.mul_zero_right p p2 q) in absurd (omega arith)
      go (inr pos) d = pos

pub coprime_tested : TestClaim
unfolding coprime
coprime_tested p p2 inverses f g some =
    let (to, from) = Divisor.coprime_gcd p p2 inverses f g in
    ((λ e. from (gcd_pos p p2 inverses f g some, ltb-true _ _ e)), (λ c. lt-ltb (gcd p f g) p (to c).1))

-- over the field of two elements the only constant that is not 0 is 1
pub coprime_binary : (f g : ℕ) → 0 < f → coprime 2 f g ≡ eqb (gcd 2 f g) 1
unfolding coprime
coprime_binary f g some = go (gcd 2 f g) (gcd_pos 2 (le_refl 2) inverses_2 f g some)
  where
    go : (d : ℕ) → 0 < d → ltb d 2 ≡ eqb d 1
    go zero pos = absurd (omega arith)
    go (suc zero) pos = refl
    go (suc (suc d)) pos = le-ltb (suc (suc d)) 2 (omega arith) ∙ sym (ne_eqb (suc (suc d)) 1 (λ e. omega arith))
