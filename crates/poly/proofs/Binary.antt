-- The field of two elements: addition is the machine's exclusive or, and codes are coprime exactly where their gcd is 1.
use mathlib.Core.Logic.{◌↔◌}
use mathlib.Core.Path.{◌≡◌, refl, sym, ap, ap₂, ◌∙◌}
use Prim.Native.Nat.{ℕ, zero, suc, ◌+◌, ◌*◌, ◌/◌, ◌%◌, ◌^◌, ◌<◌}
use native.Mathlib.Nat.{le_refl, zero-mul, one-mul}
use native.Mathlib.Omega.{arith}
use lib.Arith.{digits_div, digits_mod}
use lib.Bits.{bit_xor, xor_step, differ}
use Rattle.poly.specs.Code.{add, scale, HasDegree}
use Rattle.poly.specs.Coprime.{Coprime, gcd}
use Rattle.poly.proofs.Digits.{digit_ind₂}
use Rattle.poly.proofs.Ring
use Rattle.poly.proofs.Leading
use Rattle.poly.proofs.Divisor
use Rattle.poly.proofs.Primes.{inverses_2}

digit_xor : (d e : ℕ) → d < 2 → e < 2 → (d + e) % 2 ≡ differ d e
digit_xor zero zero hd he = refl
digit_xor zero (suc zero) hd he = refl
digit_xor zero (suc (suc e)) hd he = absurd (omega arith)
digit_xor (suc zero) zero hd he = refl
digit_xor (suc zero) (suc zero) hd he = refl
digit_xor (suc zero) (suc (suc e)) hd he = absurd (omega arith)
digit_xor (suc (suc d)) e hd he = absurd (omega arith)

pub add_xor : (a b : ℕ) → add 2 a b ≡ bit_xor a b
add_xor =
    digit_ind₂ 2 (le_refl 2) (λ a b. add 2 a b ≡ bit_xor a b) (Ring.add_zero_left 2 (le_refl 2) 0)
    (λ x y d e hd he ih.
    Ring.add_cons 2 (le_refl 2) x y hd he ∙ ap₂ (λ (u v : ℕ). u * 2 + v) ih (digit_xor d e hd he)
    ∙ sym (xor_step (x * 2 + d) (y * 2 + e) ∙ rw (digits_div x hd, digits_div y he, digits_mod x hd, digits_mod y he)))

-- a code added twice is gone
pub add_again : (a b : ℕ) → add 2 b (add 2 a b) ≡ a
add_again a b =
    let twice : add 2 b b ≡ 0 = ap (add 2 b) (sym (Ring.scale_one 2 (le_refl 2) b)) ∙ Ring.add_neg 2 (le_refl 2) b in
    Ring.add_left_comm 2 (le_refl 2) b a b ∙ ap (add 2 a) twice ∙ Ring.add_zero_right 2 (le_refl 2) a

-- equal leading terms cancel
pub leads_cancel : {n a b : ℕ} → HasDegree 2 n a → HasDegree 2 n b → add 2 a b < 2 ^ n
leads_cancel {n} {a} {b} ha hb =
    Leading.lead_zero 2 (le_refl 2) (rw (ap₂ ◌+◌ (one ha) (one hb)) at (Leading.add_lead 2 (le_refl 2) (lead ha) (lead hb)))
  where
    lead : {a : ℕ} → HasDegree 2 n a → Leading.Lead 2 n (a / 2 ^ n) a
    lead h = Leading.lead_of 2 (le_refl 2) h.high

    one : {a : ℕ} → HasDegree 2 n a → a / 2 ^ n ≡ 1
    one h = omega (arith, Leading.lead_pos 2 (le_refl 2) h, (lead h).digit)

-- a bit times a code
pub bit_scale : (d a : ℕ) → d < 2 → scale 2 d a ≡ d * a
bit_scale zero a h = Ring.scale_zero 2 (le_refl 2) a ∙ sym (zero-mul a)
bit_scale (suc zero) a h = Ring.scale_one 2 (le_refl 2) a ∙ sym (one-mul a)
bit_scale (suc (suc d)) a h = absurd (omega arith)

pub coprime_one : (a b : ℕ) → Coprime 2 a b ↔ (gcd 2 a b ≡ 1)
coprime_one a b =
    let (to, from) = Divisor.coprime_gcd 2 (le_refl 2) inverses_2 a b in
    ((λ c. let (pos, lt) = to c in omega arith), (λ e. from (omega arith, omega arith)))
