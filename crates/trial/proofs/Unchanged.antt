-- Version 1 is what it was. A version that is not 2 is refused now where it was refused before; behind version 1 the parsers go the same
-- way, field by field, since two codes are read one after the other and 8 follows g either way. The writer's causes are the same, but that
-- 4 stands once for each list.
use mathlib.Core.Bool.{Bool, true, false, not, ◌||◌}
use mathlib.Core.Logic.{◌≢◌}
use mathlib.Core.Path.{◌≡◌, refl, sym, ◌∙◌}
use Prim.Native.Nat.{ℕ, ◌^◌, ◌≤◌}
use mathlib.Core.List.{List, [], ◌∷◌, ◌++◌, append_assoc, append-nil}
use native.Mathlib.Decide.{dec_lt, ℕ_discrete}
use native.Mathlib.Omega.{arith}
use lib.Dec.{ltb, eqb}
use lib.ListN.{length}
use borrow.Author.Tests.{ne_eqb, le-ltb}
use Rattle.levels.specs.Levels.{repeats}
use Rattle.reply.specs.Reply.{Reply, served, Cause, ◌gives◌, unless}
use Rattle.poly.specs.Coprime.{gcd}
use Rattle.poly.specs.Causes.{code_causes, common_factor}
use Rattle.poly.proofs.Ranges.{inside, outside_below, outside_above}
use Rattle.leb128.specs.Parser.{Parser, parsed, failed, pure, resume, ◌>>=◌, barring}
use Rattle.leb128.specs.Number.{limits64, number, field}
use Rattle.leb128.proofs.Parser.{either, checked_twice}
use Rattle.trial.specs.Rules.{today}
use Rattle.trial.specs.Levels.{parse_levels}
use Rattle.trial.specs.Trial.{Head, Trial, trial_from, encode_head, encode_body, encode, degree_causes, parse_coprime, parse_head}
use Rattle.trial.specs.Trial.{parse_name, parse_body, parse}
use Rattle.trial.specs.Replies.{read, name_causes, content_causes, room_causes, write_reply}
use Rattle.trial.specs.Before.{second_causes, body_before, codes_before, parse_before, read_before, encode_before}
use Rattle.trial.specs.Claims.{UnchangedClaim, BeforeClaim}

holds_or_not : {C : Type 0} (b : Bool) → (b ≡ true → C) → (b ≡ false → C) → C
holds_or_not true yes_case no_case = yes_case refl
holds_or_not false yes_case no_case = no_case refl

abbrev head_before : ℕ → ℕ → ℕ → Head
head_before n f g = record { version = 1; degree = n; codes = f ∷ g ∷ [] }

-- The rules for levels were the same, and here numbers are today's: the lists are read by one and the same parser.
body_before_lem : (n f g : ℕ) (bytes : List ℕ) → parse_body today (head_before n f g) bytes ≡ body_before n f g bytes
unfolding parse_body parse_name
body_before_lem n f g bytes =
    either (parse_levels today (2 ^ n) [] bytes)
    (λ powers r₁ e₁. either (parse_levels today (2 ^ n) [] r₁) (λ forces r₂ e₂. rw (e₁, e₂)) (λ k e₂. rw (e₁, e₂)))
    (λ k e₁. rw e₁)

codes_before_lem : (n : ℕ) (bytes : List ℕ) → (parse_coprime today 1 n >>= parse_body today) bytes ≡ codes_before n bytes
unfolding parse_coprime
codes_before_lem n bytes =
    either (field limits64 (code_causes n) bytes)
    (λ f r₁ e₁.
    let twice = checked_twice number (code_causes n) (λ g. common_factor f g ∷ []) r₁ in
    either (field limits64 (code_causes n) r₁)
    (λ g r₂ e₂.
    let pair : field limits64 (second_causes n f) r₁ ≡ barring (common_factor f g ∷ []) (pure g) r₂ = sym twice ∙ rw e₂ in
    holds_or_not (not (eqb (gcd 2 f g) 1))
    (λ common. rw (e₁, e₂, pair, common))
    (λ coprime. rw (e₁, e₂, pair, coprime) (body_before_lem n f g r₂)))
    (λ k e₂. let pair : field limits64 (second_causes n f) r₁ ≡ failed k = sym twice ∙ rw e₂ in rw (e₁, e₂, pair)))
    (λ k e₁. rw e₁)

parser_before : (file : List ℕ) → ((rest : List ℕ) → number file ≢ parsed 2 rest) → parse file ≡ parse_before file
unfolding parse parse_head
parser_before file other =
    either (number file)
    (λ v rest e. elim (ℕ_discrete v 1) [
      | yes one ↦ rw (e, one, inside 1 2 {n = 1} (omega arith) (omega arith)) (behind rest)
      | no not_one ↦ elim (dec_lt v 1) [
        | yes low ↦ rw (e, outside_below 1 2 low, ne_eqb v 1 not_one)
        | no some ↦ elim (ℕ_discrete v 2) [
          | yes two ↦ absurd (other rest (rw two at e))
          | no not_two ↦ rw (e, outside_above 1 2 {n = v} (omega arith), ne_eqb v 1 not_one)
        ]
      ]
    ])
    (λ k e. rw e)
  where
    behind : (rest : List ℕ)
        → resume (resume (field limits64 degree_causes rest) (parse_coprime today 1)) (parse_body today)
        ≡ resume (field limits64 degree_causes rest) codes_before
    behind rest = either (field limits64 degree_causes rest) (λ n r e. rw e (codes_before_lem n r)) (λ k e. rw e)

-- One number for two causes, and a third that does not apply.
one_bar : (a b : Bool) (k : ℕ) (now then : Parser Trial) (bytes : List ℕ) → now bytes ≡ then bytes
    → barring (a gives k ∷ b gives k ∷ false gives k ∷ []) now bytes ≡ barring ((a || b) gives k ∷ []) then bytes
one_bar true b k now then bytes e = refl
one_bar false true k now then bytes e = refl
one_bar false false k now then bytes e = e

decision_before : (file : List ℕ) → ((rest : List ℕ) → number file ≢ parsed 2 rest) → (p q r : ℕ) → 64 ≤ r
    → read (p ∷ q ∷ r ∷ []) file ≡ read_before p q file
unfolding read
decision_before file other p q r enough =
    rw (le-ltb r 64 enough) (one_bar (ltb p 64) (ltb q 64) 4 parse parse_before file (parser_before file other))

pub unchanged : UnchangedClaim
unchanged =
    record {
      decision = decision_before;
      given =
          λ n f g powers forces name.
          record { reply = λ size. refl; first = λ rest slice. refl; second = λ rest slice. refl; third = λ rest slice. refl };
    }

-- The same causes in front.
behind_causes : (front these those : List Cause) (reply : Reply) → unless these reply ≡ unless those reply
    → unless (front ++ these) reply ≡ unless (front ++ those) reply
behind_causes [] these those reply e = e
behind_causes ((true gives k) ∷ front) these those reply e = refl
behind_causes ((false gives k) ∷ front) these those reply e = behind_causes front these those reply e

-- One number for two causes.
one_number : (a b : Bool) (k : ℕ) (more : List Cause) (reply : Reply)
    → unless (a gives k ∷ b gives k ∷ more) reply ≡ unless ((a || b) gives k ∷ more) reply
one_number true b k more reply = refl
one_number false b k more reply = refl

pub written_before : BeforeClaim
unfolding write_reply content_causes code_causes encode encode_head encode_body
written_before n f g h powers forces times name room =
    let bytes : encode (trial_from 1 n (f ∷ g ∷ h ∷ []) (powers ∷ forces ∷ times ∷ []) name) ≡ encode_before n f g powers forces name =
    simp (append_assoc, append-nil) in
    let size : ℕ = length (encode_before n f g powers forces name) in
    let more : List Cause = repeats powers gives 14 ∷ repeats forces gives 14 ∷ (name_causes name ++ room_causes room size) in
    let few : Bool = not (eqb (length powers) (2 ^ n)) in
    let short : Bool = not (eqb (length forces) (2 ^ n)) in
    record {
      reply =
          rw (bytes, inside 1 2 {n = 1} (omega arith) (omega arith))
          (behind_causes (degree_causes n ++ code_causes n f ++ second_causes n f g) (few gives 4 ∷ short gives 4 ∷ more)
          ((few || short) gives 4 ∷ more) (served (size ∷ [])) (one_number few short 4 more (served (size ∷ []))));
      bytes = bytes;
    }
