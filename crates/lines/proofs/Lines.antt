-- A line is its numbers, each with the byte that ends it, put one behind the other.
use mathlib.Core.Path.{◌≡◌, sym, ap, ◌∙◌}
use Prim.Native.Nat.{ℕ, ◌+◌, ◌≤◌}
use mathlib.Core.List.{List, [], ◌∷◌, ◌++◌, append_assoc}
use native.Mathlib.Omega.{arith}
use lib.ListN.{length, length-append}
use lib.Seq.{length-take-le}
use Rattle.lines.specs.Text.{decimal, line, Placed, Lined, refused_text}
use Rattle.lines.proofs.Putting.{length_put, puts_more}

-- A number and the byte that ends it.
abbrev pub ended : ℕ → ℕ → List ℕ
ended n end = decimal n ++ (end ∷ [])

line_2 : (a b : ℕ) → line (a ∷ b ∷ []) ≡ ended a 32 ++ ended b 10
line_2 a b = simp append_assoc

line_3 : (a b c : ℕ) → line (a ∷ b ∷ c ∷ []) ≡ ended a 32 ++ ended b 32 ++ ended c 10
line_3 a b c = simp append_assoc

pub lined : {out bytes : List ℕ} {r : ℕ} {out' : List ℕ} → Placed out 0 bytes r out' → 0 + length bytes ≤ length out
    → Lined out bytes r out'
lined {out} {bytes} {r} {out'} p room =
    let size : r ≡ length bytes = omega (arith, p.next) in
    let kept : length out' ≡ length out = ap length p.after ∙ length_put out 0 bytes room in
    let fits : r ≤ length out' = omega arith in
    record { size = size; content = p.after; within = (fits, sym (length-take-le r out' fits)) }

pub line_some : (a b c : ℕ) → 1 ≤ length (line (a ∷ b ∷ c ∷ []))
line_some a b c = omega (arith, length-append (decimal a) (32 ∷ line (b ∷ c ∷ [])))

pub puts_3 : {out : List ℕ} {at : ℕ} (a b c : ℕ) {r₁ r₂ r₃ : ℕ} {out₁ out₂ out₃ : List ℕ} → at + 63 ≤ length out
    → Placed out at (ended a 32) r₁ out₁ → r₁ ≤ at + 21 → Placed out₁ r₁ (ended b 32) r₂ out₂ → r₂ ≤ r₁ + 21
    → Placed out₂ r₂ (ended c 10) r₃ out₃ → r₃ ≤ r₂ + 21 → Placed out at (line (a ∷ b ∷ c ∷ [])) r₃ out₃
puts_3 {out} {at} a b c room p₁ h₁ p₂ h₂ p₃ h₃ =
    let size₂ = length-append (ended a 32) (ended b 32) in
    let size₃ = length-append (ended a 32 ++ ended b 32) (ended c 10) in
    let room₂ : at + length (ended a 32 ++ ended b 32) ≤ length out = omega (arith, p₁.next, p₂.next) in
    let room₃ : at + length (ended a 32 ++ ended b 32 ++ ended c 10) ≤ length out = omega (arith, p₁.next, p₂.next, p₃.next) in
    rw line_3 (puts_more room₃ (puts_more room₂ p₁ p₂) p₃)

module _ {out : List ℕ} (long : length out ≡ 64) where
  pub lined_2 : (a b : ℕ) {r₁ r₂ : ℕ} {out₁ out₂ : List ℕ}
      → Placed out 0 (ended a 32) r₁ out₁ → r₁ ≤ 0 + 21 → Placed out₁ r₁ (ended b 10) r₂ out₂ → r₂ ≤ r₁ + 21
      → Lined out (line (a ∷ b ∷ [])) r₂ out₂
  lined_2 a b p₁ h₁ p₂ h₂ =
      let size = length-append (ended a 32) (ended b 10) in
      let room : 0 + length (ended a 32 ++ ended b 10) ≤ length out = omega (arith, p₁.next, p₂.next) in
      rw line_2 (lined (puts_more room p₁ p₂) room)

  pub lined_refusal : (a : ℕ) {r₁ r₂ : ℕ} {out₁ out₂ : List ℕ}
      → Placed out 0 refused_text r₁ out₁ → Placed out₁ r₁ (ended a 10) r₂ out₂ → r₂ ≤ r₁ + 21
      → Lined out (refused_text ++ line (a ∷ [])) r₂ out₂
  lined_refusal a p₁ p₂ h₂ =
      let size = length-append refused_text (ended a 10) in
      let room : 0 + length (refused_text ++ ended a 10) ≤ length out = omega (arith, p₁.next, p₂.next) in
      lined (puts_more room p₁ p₂) room
