-- Runs of bytes that repeat others: none, one byte, and two runs one after the other, which are one run.
use mathlib.Core.Path.{◌≡◌, refl, ap, ap₂, ◌∙◌}
use mathlib.Core.List.{List}
use Prim.Native.Nat.{ℕ, ◌+◌, ◌-◌, ◌≤◌, ◌<◌}
use native.Mathlib.Nat.{add-zero}
use native.Mathlib.Decide.{dec_lt}
use native.Mathlib.Omega.{arith}
use lib.Bits.{bit_xor}
use lib.ListN.{length, get_or, set, length-set}
use lib.Seq.{get_or-set_same, get_or-set_other}
use Rattle.squares.specs.Doubling.{Added}

pub none : (out : List ℕ) (from to : ℕ) (pattern : ℕ → ℕ) → Added out from to 0 pattern out
none out from to pattern = record { long = refl; low = λ j h. refl; new = λ i h. absurd (omega arith); high = λ j h. refl }

pub one : (out : List ℕ) (from to v : ℕ) → to < length out
    → Added out from to 1 (λ i. v) (set out to (bit_xor (get_or out from 0) v))
one out from to v inside = record {
  long = length-set out to w;
  low = λ j h. get_or-set_other out to j w 0 (λ same. omega arith);
  new = λ i h. first i (omega arith);
  high = λ j h. get_or-set_other out to j w 0 (λ same. omega arith);
}
  where
    w : ℕ
    w = bit_xor (get_or out from 0) v

    first : (i : ℕ) → i ≡ 0 → get_or (set out to w) (to + i) 0 ≡ bit_xor (get_or out (from + i) 0) v
    first i e = rw (e, add-zero to, add-zero from) (get_or-set_same out to w 0 inside)

pub append : {out out₁ out₂ : List ℕ} {from to count more : ℕ} {pattern rest : ℕ → ℕ} → from + count + more ≤ to
    → ((i : ℕ) → i < more → rest i ≡ pattern (count + i)) → Added out from to count pattern out₁
    → Added out₁ (from + count) (to + count) more rest out₂ → Added out from to (count + more) pattern out₂
append {out} {out₁} {out₂} {from} {to} {count} {more} {pattern} {rest} apart same a b = record {
  long = b.long ∙ a.long;
  low = λ j h. b.low j (omega arith) ∙ a.low j h;
  new = new;
  high = λ j h. b.high j (omega arith) ∙ a.high j (omega arith);
}
  where
    new : (i : ℕ) → i < count + more → get_or out₂ (to + i) 0 ≡ bit_xor (get_or out (from + i) 0) (pattern i)
    new i h = elim (dec_lt i count) [
      | yes l ↦ b.low (to + i) (omega arith) ∙ a.new i l
      | no l ↦ let k : ℕ = i - count in
          let k_lt : k < more = omega arith in
          let there : to + i ≡ to + count + k = omega arith in
          let here : from + count + k ≡ from + i = omega arith in
          let whole : count + k ≡ i = omega arith in
          ap (λ v. get_or out₂ v 0) there ∙ b.new k k_lt
          ∙ ap₂ (λ (u v : ℕ). bit_xor u v) (a.low (from + count + k) (omega arith) ∙ ap (λ v. get_or out v 0) here)
          (same k k_lt ∙ ap pattern whole)
    ]
