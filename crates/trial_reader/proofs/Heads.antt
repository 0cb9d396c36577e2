-- The codes of a head, once it is known what their fields gave: f, then g, and then what the version has behind them.
use mathlib.Core.Path.{◌≡◌, sym, ◌∙◌}
use Prim.Native.Nat.{ℕ, suc, pred, ◌≤◌}
use mathlib.Core.Bool.{false}
use mathlib.Core.List.{List, [], ◌∷◌, ◌++◌}
use native.Mathlib.Omega.{arith}
use lib.ListN.{drop}
use Rattle.reply.specs.Reply.{served, Cause, unless}
use Rattle.reply.specs.declared.Refusal.{Refusal}
use Rattle.reply.proofs.Order.{NoneApplies, passed, none_applies, none_refuses, clear_append}
use Rattle.poly.specs.Limits.{outside}
use Rattle.poly.specs.Causes.{sheet_degree_cause, code_causes, own_causes, common_factors}
use Rattle.codes.specs.Replies.{check_three_reply}
use Rattle.std.specs.Prelude.{Result, Ok, Err}
use Rattle.trial_reader.specs.declared.fields.Head.{Head as CodeHead}
use Rattle.leb128.specs.Parser.{parsed, pure}
use Rattle.leb128.specs.Number.{limits64, number, field}
use Rattle.leb128.specs.Reading.{Reads}
use Rattle.leb128.proofs.Parser.{either, checked_parsed, resume_barring}
use Rattle.trial.specs.Rules.{today}
use Rattle.trial.specs.Trial.{Head, parse_coprime}
use Rattle.trial_reader.specs.Inner.{coprime_head, third_code, HeadRead}

abbrev head_with : ℕ → ℕ → List ℕ → Head
head_with v n codes = record { version = v; degree = n; codes = codes }

-- A code that its field gave.
module _ (n : ℕ) (file : List ℕ) (at : ℕ) {code next : ℕ} (reads : Reads (field limits64 (code_causes n)) file at (Ok (code, next))) where
  pub code_told : field limits64 (code_causes n) (drop at file) ≡ parsed code (drop next file)
  code_told = sym reads.says

  pub code_clear : NoneApplies (code_causes n code)
  code_clear = (checked_parsed number (code_causes n) (drop at file) code_told).0

module _ (n : ℕ) (file : List ℕ) (at : ℕ) where
  pub first_refused : (v : ℕ) {why : Refusal} → Reads (field limits64 (code_causes n)) file at (Err why)
      → HeadRead (parse_coprime today v n) file at (Err why)
  unfolding parse_coprime
  first_refused v refusal = record { says = rw (sym refusal.says); inside = tt }

  module _ {f at₁ : ℕ} (first : Reads (field limits64 (code_causes n)) file at (Ok (f, at₁))) where
    pub second_refused : (v : ℕ) {why : Refusal} → 1 ≤ v → Reads (field limits64 (code_causes n)) file at₁ (Err why)
        → HeadRead (parse_coprime today v n) file at (Err why)
    unfolding parse_coprime
    second_refused v some refusal =
        let s : v ≡ suc (pred v) = omega arith in
        rw s (record { says = rw (sym first.says, sym refusal.says); inside = tt })

    module _ {g at₂ : ℕ} (second : Reads (field limits64 (code_causes n)) file at₁ (Ok (g, at₂))) where
      -- Both have passed by themselves.
      pub both_passed : outside 2 6 n ≡ false → served [] ≡ unless (sheet_degree_cause n ∷ own_causes n (f ∷ g ∷ [])) (served [])
      both_passed degree =
          let clear_g = clear_append (code_causes n g) [] (code_clear n file at₁ second) tt in
          let clear = clear_append (code_causes n f) (own_causes n (g ∷ [])) (code_clear n file at first) clear_g in
          sym (none_refuses (sheet_degree_cause n ∷ own_causes n (f ∷ g ∷ [])) (served []) (degree, clear))

      pub both_read : {r : Result (CodeHead × ℕ) Refusal} → HeadRead (coprime_head 1 n (f ∷ g ∷ [])) file at₂ r
          → HeadRead (parse_coprime today 1 n) file at r
      unfolding parse_coprime
      both_read h =
          let codes : List ℕ = f ∷ g ∷ [] in
          let checked = resume_barring (common_factors codes) codes (λ codes. pure (head_with 1 n codes)) (drop at₂ file) in
          record {
            says = h.says ∙ sym (rw (sym first.says, sym second.says) checked);
            inside = h.inside;
          }

      pub three_read : {r : Result (CodeHead × ℕ) Refusal} → HeadRead (third_code n f g) file at₂ r
          → HeadRead (parse_coprime today 2 n) file at r
      unfolding parse_coprime
      three_read h =
          record {
            says =
                h.says
                ∙ either (field limits64 (code_causes n) (drop at₂ file))
                (λ third rest e.
                let codes : List ℕ = f ∷ g ∷ third ∷ [] in
                rw (sym first.says, sym second.says, e)
                (sym (resume_barring (common_factors codes) codes (λ codes. pure (head_with 2 n codes)) rest)))
                (λ k e. rw (sym first.says, sym second.says, e));
            inside = h.inside;
          }

-- Two codes passed at a degree that has passed.
pub degree_passed : (n : ℕ) (causes : List Cause) → served [] ≡ unless (sheet_degree_cause n ∷ causes) (served []) → outside 2 6 n ≡ false
degree_passed n causes e = (none_applies (sheet_degree_cause n ∷ causes) [] [] (sym e)).0

-- Of three codes that have passed by themselves the test of three says their common factors alone.
pub factors_said : (n f g h : ℕ) → served [] ≡ unless (sheet_degree_cause n ∷ own_causes n (f ∷ g ∷ [])) (served [])
    → NoneApplies (code_causes n h) → check_three_reply n f g h ≡ unless (common_factors (f ∷ g ∷ h ∷ [])) (served [])
unfolding code_causes
factors_said n f g h both clear =
    let factors = common_factors (f ∷ g ∷ h ∷ []) in
    passed (code_causes n h ++ factors) (served []) (sheet_degree_cause n ∷ own_causes n (f ∷ g ∷ [])) both
    ∙ passed factors (served []) (code_causes n h) (sym (none_refuses (code_causes n h) (served []) clear))
