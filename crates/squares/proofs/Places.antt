-- Single bits of what the machine's operations give: bit by bit for `and` and `or`, moved by a shift.
use mathlib.Core.Path.{◌≡◌, sym, ap, ◌∙◌}
use Prim.Native.Nat.{ℕ, ◌+◌, ◌-◌, ◌*◌, ◌/◌, ◌%◌, ◌^◌, ◌≤◌, ◌<◌}
use native.Mathlib.Nat
use native.Mathlib.Nat.{le_refl, mod-lt, div-add-mod'}
use native.Mathlib.Omega.{arith}
use lib.Bits.{bit_and, bit_or, and_shr, and_mod, or_shr, or_mod}
use lib.Pow.{pow_pos}
use Rattle.poly.specs.Code.{digit}
use Rattle.squares.proofs.Middle

pub digit_and : (a b i : ℕ) → digit 2 (bit_and a b) i ≡ bit_and (digit 2 a i) (digit 2 b i)
digit_and a b i = ap (λ (v : ℕ). v % 2) (and_shr a b i) ∙ and_mod (a / 2 ^ i) (b / 2 ^ i) 1

pub digit_or : (a b i : ℕ) → digit 2 (bit_or a b) i ≡ bit_or (digit 2 a i) (digit 2 b i)
digit_or a b i = ap (λ (v : ℕ). v % 2) (or_shr a b i) ∙ or_mod (a / 2 ^ i) (b / 2 ^ i) 1

pub digit_mod : (a : ℕ) {w : ℕ} (i : ℕ) → i < w → digit 2 (a % 2 ^ w) i ≡ digit 2 a i
digit_mod a {w} i l = sym (rw (div-add-mod' a (2 ^ w)) at (Middle.digit_low 2 (le_refl 2) w (a / 2 ^ w) (mod-lt a (pow_pos w)) i l))

pub digit_shl_high : (a w i : ℕ) → w ≤ i → digit 2 (a * 2 ^ w) i ≡ digit 2 a (i - w)
digit_shl_high a w i l =
    let whole : i ≡ (i - w) + w = omega arith in
    ap (digit 2 (a * 2 ^ w)) whole ∙ rw (Nat.add-zero (a * 2 ^ w)) at (Middle.digit_high 2 (le_refl 2) w a (pow_pos w) (i - w))

pub digit_shl_low : (a w i : ℕ) → i < w → digit 2 (a * 2 ^ w) i ≡ 0
digit_shl_low a w i l =
    rw (Nat.add-zero (a * 2 ^ w)) at (Middle.digit_low 2 (le_refl 2) w a (pow_pos w) i l) ∙ ap (λ (v : ℕ). v % 2) (Nat.zero-div (2 ^ i))
