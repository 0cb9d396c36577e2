-- What is known of a file that is read: its parts, one behind the other.
use mathlib.Core.Bool.{Bool, true, false, cond}
use mathlib.Core.List.{List, [], ◌∷◌}
use mathlib.Core.Path.{◌≡◌, refl}
use Prim.Native.Nat.{ℕ, ◌≤◌}
use native.Mathlib.Omega.{arith}
use borrow.Author.Tests.{ltb-false}
use lib.Dec.{ltb, eqb}
use lib.ListN.{length, replicate}
use Rattle.reply.specs.Reply.{Cause, ◌gives◌}
use Rattle.poly.proofs.Ranges.{within}
use Rattle.leb128.specs.Parser.{parsed, pure, parse_end}
use Rattle.leb128.specs.Number.{limits64, number, field, fields}
use Rattle.leb128.proofs.Parser.{with_parsed, barred, checked_parsed}
use Rattle.leb128.proofs.Field.{fields_many}
use Rattle.walk.specs.declared.Walk.{Walk}
use Rattle.walk.specs.Walks.{walk_at, bad_record, record_cause}
use Rattle.walk.specs.Claims.{Sound}
use Rattle.walk.proofs.Keeping.{right_at}
use Rattle.saved.specs.Saved.{kind_causes, count_causes, mark_causes, eight, load}

pub record Parts (file : List ℕ) (walk : Walk) : Type 0 where
  pub kind : ℕ
  pub degree : ℕ
  pub position : ℕ
  pub marks : List ℕ
  pub counts : List ℕ
  pub behind_kind : List ℕ
  pub behind_degree : List ℕ
  pub behind_position : List ℕ
  pub behind_marks : List ℕ
  pub kind_read : number file ≡ parsed kind behind_kind
  pub kind_low : 1 ≤ kind
  pub kind_high : kind ≤ 2
  pub degree_read : number behind_kind ≡ parsed degree behind_degree
  pub position_read : number behind_degree ≡ parsed position behind_position
  pub marks_read : eight kind mark_causes behind_position ≡ parsed marks behind_marks
  pub counts_read : eight kind count_causes behind_marks ≡ parsed counts []
  pub is : walk ≡ walk_at degree position marks counts
  pub good : bad_record walk ≡ false

empty : (bytes : List ℕ) → ltb 0 (length bytes) ≡ false → bytes ≡ []
empty [] e = refl
empty (b ∷ bytes) e = absurd (omega (arith, ltb-false 0 (length (b ∷ bytes)) e))

pub parts_read : (file : List ℕ) {walk : Walk} {rest : List ℕ} → load file ≡ parsed walk rest → Parts file walk
unfolding load parse_end
parts_read file {walk} {rest} e =
    with_parsed (field limits64 kind_causes) _ file e λ kind r₁ e₁ p₁.
    with_parsed number _ r₁ p₁ λ degree r₂ e₂ p₂.
    with_parsed number _ r₂ p₂ λ position r₃ e₃ p₃.
    with_parsed (eight kind mark_causes) _ r₃ p₃ λ marks r₄ e₄ p₄.
    with_parsed (eight kind count_causes) _ r₄ p₄ λ counts r₅ e₅ p₅.
    let c = checked_parsed (parse_end (walk_at degree position marks counts)) (λ walk. record_cause walk ∷ []) r₅ p₅ in
    let b = barred (ltb 0 (length r₅) gives 17 ∷ []) (pure (walk_at degree position marks counts)) r₅ c.1 in
    let none = empty r₅ b.0.0 in
    let k = checked_parsed number kind_causes file e₁ in
    let (low, high) = within 1 2 k.0.0 in
    record {
      kind = kind;
      degree = degree;
      position = position;
      marks = marks;
      counts = counts;
      behind_kind = r₁;
      behind_degree = r₂;
      behind_position = r₃;
      behind_marks = r₄;
      kind_read = k.1;
      kind_low = low;
      kind_high = high;
      degree_read = e₂;
      position_read = e₃;
      marks_read = e₄;
      counts_read = rw none at e₅;
      is = cc b.1;
      good = c.0.0;
    }

-- Eight marks and eight counts are read, or taken for 0.
eight_many : (kind : ℕ) (causes : ℕ → List Cause) (bytes : List ℕ) {numbers rest : List ℕ}
    → eight kind causes bytes ≡ parsed numbers rest → length numbers ≡ 8
eight_many kind causes bytes {numbers} {rest} e = go (eqb kind 1) e
  where
    go : (first : Bool) → cond first (pure (replicate 8 0)) (fields limits64 causes 8) bytes ≡ parsed numbers rest → length numbers ≡ 8
    go true e = let zeros : numbers ≡ replicate 8 0 = cc in rw zeros
    go false e = fields_many limits64 causes 8 bytes e

pub parts_sound : {file : List ℕ} {walk : Walk} → Parts file walk → Sound walk
parts_sound {file} {walk} p =
    let good = rw p.is at p.good in
    rw p.is
    (record {
      accepted = good;
      eight_marks = eight_many p.kind mark_causes p.behind_position p.marks_read;
      eight_counts = eight_many p.kind count_causes p.behind_marks p.counts_read;
      right = right_at p.degree p.position p.marks p.counts;
    })
