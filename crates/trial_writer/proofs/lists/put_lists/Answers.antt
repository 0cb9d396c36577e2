-- `put_lists` meets its contract: each list is put behind the one before, and behind the second there is left the third, if any.
use mathlib.Core.Path.{◌≡◌, refl, subst}
use mathlib.Core.List.{List, [], ◌∷◌, append-nil}
use Prim.Native.Nat.{ℕ}
use Rattle.leb128.specs.Number.{encode_numbers}
use Rattle.leb128.specs.Writing.{Puts}
use Rattle.leb128.proofs.Putting.{Putting, none_put, bytes_put, all_put, last_put}
use Rattle.trial.specs.Trial.{encode_lists}
use Rattle.trial_writer.proofs.lists.put_lists.Goals as goal

module _ (powers forces : List ℕ) {out out₁ out₂ : List ℕ} {at at₁ at₂ : ℕ} (p₁ : Puts out at (encode_numbers powers) at₁ out₁)
    (p₂ : Puts out₁ at₁ (encode_numbers forces) at₂ out₂) where
  -- Two lists are put, and others are left.
  put₂ : (others : List (List ℕ)) → Putting out out₂ at at₂ (encode_lists (powers ∷ forces ∷ others)) (encode_lists others)
  put₂ others = bytes_put (encode_numbers forces) (bytes_put (encode_numbers powers) (none_put out at refl) p₁) p₂

  third_put : (times : List ℕ) {out₃ : List ℕ} {at₃ : ℕ} → Puts out₂ at₂ (encode_numbers times) at₃ out₃
      → Puts out at (encode_lists (powers ∷ forces ∷ times ∷ [])) at₃ out₃
  third_put times p₃ =
      let left : encode_lists (times ∷ []) ≡ encode_numbers times = append-nil (encode_numbers times) in
      let all = encode_lists (powers ∷ forces ∷ times ∷ []) in
      last_put (subst (λ (bytes : List ℕ). Putting out out₂ at at₂ all bytes) left (put₂ (times ∷ []))) p₃

pub returns-in_default : goal.returns-in_default
returns-in_default c =
    let a = c.args.content.now in
    rw c.in_default.is (all_put (put₂ a.powers.now a.forces.now c.put_levels-at.ensures c.put_levels-at-2.ensures []))

pub returns : goal.returns
returns c =
    let a = c.args.content.now in
    rw c.in-Some.is
    (third_put a.powers.now a.forces.now c.put_levels-at.ensures c.put_levels-at-2.ensures c.in-Some.third.times.now c.put_levels.ensures)
