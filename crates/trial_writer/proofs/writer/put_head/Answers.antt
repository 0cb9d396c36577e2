-- `put_head` meets its contract: each number is put behind the one before, and behind the second code there is left the third, if any.
use mathlib.Core.Path.{refl}
use mathlib.Core.List.{List, [], ◌∷◌, ◌++◌, append-nil}
use Prim.Native.Nat.{ℕ, ◌+◌, ◌≤◌}
use native.Mathlib.Omega.{arith}
use lib.ListN.{length}
use Rattle.leb128.specs.Number.{encode_number, encode_numbers}
use Rattle.leb128.specs.Writing.{Puts, PutsFitting}
use Rattle.leb128.proofs.Putting.{Putting, none_put, part_put, all_put, last_part_put}
use Rattle.trial.specs.Trial.{encode_head}
use Rattle.trial_writer.proofs.writer.put_head.Goals as goal

module _ (v n f g : ℕ) (codes : List ℕ) where
  abbrev all : List ℕ
  all = encode_head (record { version = v; degree = n; codes = f ∷ g ∷ codes })

  -- Where nothing is put yet.
  none : (out : List ℕ)
      → Putting out out 0 0 all (encode_number v ++ (encode_number n ++ (encode_number f ++ (encode_number g ++ encode_numbers codes))))
  unfolding encode_head
  none out = none_put out 0 refl

  module _ {out out₁ out₂ out₃ out₄ : List ℕ} {at₁ at₂ at₃ at₄ : ℕ} (room : length all ≤ length out)
      (p₁ : PutsFitting out 0 (encode_number v) at₁ out₁) (p₂ : PutsFitting out₁ at₁ (encode_number n) at₂ out₂)
      (p₃ : PutsFitting out₂ at₂ (encode_number f) at₃ out₃) (p₄ : PutsFitting out₃ at₃ (encode_number g) at₄ out₄) where
    -- What is put, number by number.
    put₄ : Putting out out₄ 0 at₄ all (encode_numbers codes)
    put₄ =
        let there : 0 + length all ≤ length out = omega arith in
        let put₁ = part_put (encode_number v) (none out) there p₁ in
        let put₂ = part_put (encode_number n) put₁ there p₂ in
        let put₃ = part_put (encode_number f) put₂ there p₃ in
        part_put (encode_number g) put₃ there p₄

-- In version 2 the third code is left.
third_put : {all out out₄ out₅ : List ℕ} {at₄ at₅ : ℕ} (h : ℕ) → length all ≤ length out
    → Putting out out₄ 0 at₄ all (encode_numbers (h ∷ []))
    → PutsFitting out₄ at₄ (encode_number h) at₅ out₅ → Puts out 0 all at₅ out₅
third_put h room put p₅ = last_part_put (rw append-nil at put) (omega arith) p₅

pub returns-in_default : goal.returns-in_default
returns-in_default c =
    let content = c.args.content.now in
    let room = rw c.in_default.is at c.requires in
    let first = rw (c.version.ensures, c.in_default.is) at c.put_number-at.ensures in
    let degree = rw c.from.ensures at c.put_number-at-2.ensures in
    let f = rw c.from-2.ensures at c.put_number-at-3.ensures in
    let g = rw c.from-3.ensures at c.put_number-at-4.ensures in
    rw c.in_default.is
    (all_put (put₄ 1 content.degree content.f content.g [] room first degree f g))

pub returns : goal.returns
returns c =
    let content = c.args.content.now in
    let room = rw c.in-Some.is at c.requires in
    let first = rw (c.version.ensures, c.in-Some.is) at c.put_number-at.ensures in
    let degree = rw c.from.ensures at c.put_number-at-2.ensures in
    let f = rw c.from-2.ensures at c.put_number-at-3.ensures in
    let g = rw c.from-3.ensures at c.put_number-at-4.ensures in
    let h = rw c.from-4.ensures at c.put_number.ensures in
    rw c.in-Some.is
    (third_put c.in-Some.third.h room
    (put₄ 2 content.degree content.f content.g (c.in-Some.third.h ∷ []) room first degree f g)
    h)
