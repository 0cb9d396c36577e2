-- Exchanges of groups of bits, and that those of widths 1 to 32 reverse 64 bits. What is told of places is computed over all 64 of them: a
-- sum that is 0 has no other terms.
use mathlib.Core.Path.{◌≡◌, refl, ap, ap₂, ◌∙◌}
use Prim.Native.Nat.{ℕ, zero, suc, ◌+◌, ◌-◌, ◌*◌, ◌/◌, ◌%◌, ◌^◌, ◌≤◌, ◌<◌}
use native.Mathlib.Nat.{add_comm, mod-mod, div-eq_of_lt, div-eq-sub-div}
use native.Mathlib.Decide.{dec_lt}
use native.Mathlib.Omega.{arith}
use lib.Bits.{bit_and, bit_or, and_mask, and_zero_r, or_zero_l, or_zero_r}
use Rattle.poly.specs.Code.{digit}
use Rattle.squares.specs.Symbols.{sum_below}
use Rattle.squares.specs.Lines.{Moved, exchanged, Lower}
use Rattle.squares.proofs.Middle.{div_pow}
use Rattle.squares.proofs.Places.{digit_and, digit_or, digit_mod, digit_shl_high, digit_shl_low}

-- ---- all places at once
each_zero : (k : ℕ) (h : ℕ → ℕ) → sum_below k h ≡ 0 → (i : ℕ) → i < k → h i ≡ 0
each_zero zero h e i l = absurd (omega arith)
each_zero (suc k) h e zero l = omega arith
each_zero (suc k) h e (suc i) l = each_zero k (λ j. h (suc j)) (omega arith) i (omega arith)

abbrev pub apart : ℕ → ℕ → ℕ
apart a b = (a - b) + (b - a)

-- how far a width, and a mask at place i, are from what is asked of them
abbrev pub fault : ℕ → ℕ → ℕ → ℕ
fault width low i = (1 - width) + (width - 63) + apart (digit 2 low i) ((i / width + 1) % 2)

faultless : {width low : ℕ} → ((i : ℕ) → i < 64 → fault width low i ≡ 0) → Lower width low
faultless {width} {low} at =
    let first = at 0 (omega arith) in
    record { some = omega arith; few = omega arith; bit = λ i l. let z = at i l in omega arith }

pub lower : {width low : ℕ} → sum_below 64 (fault width low) ≡ 0 → Lower width low
lower {width} {low} e = faultless (each_zero 64 (fault width low) e)

-- ---- one exchange after others, which takes no bit from outside
abbrev pub outside : ℕ → ℕ
outside width = sum_below 64 (λ i. suc (exchanged width i) - 64)

pub after : {from : ℕ → ℕ} {x y z : ℕ} (width : ℕ) → outside width ≡ 0
    → Moved from x y → Moved (exchanged width) y z → Moved (λ i. from (exchanged width i)) x z
after {from} {x} {y} {z} width e first then = record { bit = go }
  where
    go : (i : ℕ) → i < 64 → digit 2 z i ≡ digit 2 x (from (exchanged width i))
    go i l =
        let inside = each_zero 64 (λ i. suc (exchanged width i) - 64) e i l in
        then.bit i l ∙ first.bit (exchanged width i) (omega arith)

abbrev pub network : ℕ → ℕ
network i = exchanged 1 (exchanged 2 (exchanged 4 (exchanged 8 (exchanged 16 (exchanged 32 i)))))

pub network_reverses : {x y : ℕ} → Moved network x y → Moved (λ i. 63 - i) x y
network_reverses {x} {y} moved = record { bit = go }
  where
    go : (i : ℕ) → i < 64 → digit 2 y i ≡ digit 2 x (63 - i)
    go i l =
        let all = each_zero 64 (λ i. apart (network i) (63 - i)) refl i l in
        let place : network i ≡ 63 - i = omega arith in
        moved.bit i l ∙ ap (digit 2 x) place

-- ---- one exchange
bit_kept : (a : ℕ) → bit_and (a % 2) 1 ≡ a % 2
bit_kept a = and_mask (a % 2) 1 ∙ mod-mod a 2

module _ (x : ℕ) {width low : ℕ} (is : Lower width low) where
  -- what the bit at a place is made of
  made : (i : ℕ) → i < 64
      → digit 2 (bit_or (bit_and (x / 2 ^ width) low) (bit_and x low * 2 ^ width % 2 ^ 64)) i
      ≡ bit_or (bit_and (digit 2 x (i + width)) (digit 2 low i)) (digit 2 (bit_and x low * 2 ^ width) i)
  made i l =
      digit_or (bit_and (x / 2 ^ width) low) (bit_and x low * 2 ^ width % 2 ^ 64) i
      ∙ ap₂ bit_or
      (digit_and (x / 2 ^ width) low i
      ∙ ap (λ (v : ℕ). bit_and (v % 2) (digit 2 low i)) (div_pow 2 x width i ∙ ap (λ (v : ℕ). x / 2 ^ v) (add_comm width i)))
      (digit_mod (bit_and x low * 2 ^ width) {w = 64} i l)

  -- the bit that the shift to the left brings, from the group before: in an upper group that of x, in a lower group none
  brought : (i : ℕ) → i < 64 → width ≤ i → digit 2 (bit_and x low * 2 ^ width) i ≡ bit_and (digit 2 x (i - width)) (i / width % 2)
  brought i l h =
      let before = div-eq-sub-div is.some h in
      let mask : digit 2 low (i - width) ≡ i / width % 2 = is.bit (i - width) (omega arith) ∙ omega arith in
      digit_shl_high (bit_and x low) width i h ∙ digit_and x low (i - width) ∙ ap (bit_and (digit 2 x (i - width))) mask

  in_lower : (i : ℕ) → i < 64 → i / width % 2 ≡ 0 → digit 2 (bit_and x low * 2 ^ width) i ≡ 0
  in_lower i l e = elim (dec_lt i width) [
    | yes h ↦ digit_shl_low (bit_and x low) width i h
    | no h ↦ brought i l (omega arith) ∙ rw e (and_zero_r (digit 2 x (i - width)))
  ]

  in_upper : (i : ℕ) → i < 64 → i / width % 2 ≡ 1 → digit 2 (bit_and x low * 2 ^ width) i ≡ digit 2 x (i - width)
  in_upper i l e = elim (dec_lt i width) [
    | yes h ↦ let first = div-eq_of_lt h in absurd (omega arith)
    | no h ↦ brought i l (omega arith) ∙ rw e (bit_kept (x / 2 ^ (i - width)))
  ]

  pub exchange : Moved (exchanged width) x (bit_or (bit_and (x / 2 ^ width) low) (bit_and x low * 2 ^ width % 2 ^ 64))
  exchange = record { bit = λ i l. made i l ∙ go i l (dec_lt 0 (i / width % 2)) }
    where
      go : (i : ℕ) → i < 64 → Dec (0 < i / width % 2)
          → bit_or (bit_and (digit 2 x (i + width)) (digit 2 low i)) (digit 2 (bit_and x low * 2 ^ width) i)
          ≡ digit 2 x (exchanged width i)
      go i l (no h) =
          let e : i / width % 2 ≡ 0 = omega arith in
          let one : digit 2 low i ≡ 1 = is.bit i l ∙ omega arith in
          rw (in_lower i l e, one, e) (or_zero_r (bit_and (digit 2 x (i + width)) 1) ∙ bit_kept (x / 2 ^ (i + width)))
      go i l (yes h) =
          let e : i / width % 2 ≡ 1 = omega arith in
          let none : digit 2 low i ≡ 0 = is.bit i l ∙ omega arith in
          rw (in_upper i l e, none, e, and_zero_r (digit 2 x (i + width))) (or_zero_l (digit 2 x (i - width)))
