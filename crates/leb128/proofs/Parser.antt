-- What a parse that succeeds tells of its steps: each step parsed, and no cause applied. And causes that do not apply, or that a reply
-- is refused for, in the parsers' words.
use mathlib.Core.Path.{◌≡◌, refl, ◌∙◌}
use Prim.Native.Nat.{ℕ}
use mathlib.Core.Bool.{true, false}
use mathlib.Core.List.{List, [], ◌∷◌, ◌++◌}
use native.Mathlib.Omega.{arith}
use Rattle.reply.specs.Reply.{served, refused, Cause, ◌gives◌, unless}
use Rattle.reply.proofs.Order.{NoneApplies}
use Rattle.leb128.specs.Parser.{Parsed, parsed, failed, Parser, pure, resume, ◌>>=◌, barring, checked}

pub failed_not_parsed : {A : Type 0} {number : ℕ} {value : A} {rest : List ℕ} → failed number ≡ parsed value rest → ⊥
failed_not_parsed e = let z : ◌≡◌ {A = ℕ} 0 1 = cc in omega arith

-- What a parser answered, by cases.
pub either : {A C : Type 0} (p : Parsed A) → ((a : A) (rest : List ℕ) → p ≡ parsed a rest → C) → ((k : ℕ) → p ≡ failed k → C) → C
either (parsed a rest) read refusal = read a rest refl
either (failed k) read refusal = refusal k refl

-- A parser and then a next one parse: what the first reads, the rest, and what the next makes of them, go on to `go`.
pub with_parsed : {A B C : Type 0} (first : Parser A) (next : A → Parser B) (bytes : List ℕ) {value : B} {end : List ℕ}
    → (first >>= next) bytes ≡ parsed value end
    → ((a : A) (rest : List ℕ) → first bytes ≡ parsed a rest → next a rest ≡ parsed value end → C)
    → C
with_parsed {A} {B} {C} first next bytes {value} {end} e go = cases (first bytes) refl e
  where
    cases : (p : Parsed A) → first bytes ≡ p → resume p next ≡ parsed value end → C
    cases (parsed a rest) e e' = go a rest e e'
    cases (failed number) e e' = absurd (failed_not_parsed e')

pub barring_clear : {A : Type 0} (causes : List Cause) (parser : Parser A) (bytes : List ℕ) → NoneApplies causes
    → barring causes parser bytes ≡ parser bytes
barring_clear [] parser bytes c = refl
barring_clear ((true gives number) ∷ causes) parser bytes c = cc
barring_clear ((false gives number) ∷ causes) parser bytes c = barring_clear causes parser bytes c.1

-- No cause applied, and the parser parsed.
pub barred : {A : Type 0} (causes : List Cause) (parser : Parser A) (bytes : List ℕ) {value : A} {rest : List ℕ}
    → barring causes parser bytes ≡ parsed value rest → NoneApplies causes × (parser bytes ≡ parsed value rest)
barred [] parser bytes e = (tt, e)
barred ((true gives number) ∷ causes) parser bytes e = absurd (failed_not_parsed e)
barred ((false gives number) ∷ causes) parser bytes e =
    let b = barred causes parser bytes e in ((refl, b.0), b.1)

pub checked_parsed : {A : Type 0} (parser : Parser A) (causes : A → List Cause) (bytes : List ℕ) {value : A} {rest : List ℕ}
    → checked parser causes bytes ≡ parsed value rest → NoneApplies (causes value) × (parser bytes ≡ parsed value rest)
checked_parsed parser causes bytes {value} e =
    with_parsed parser (λ a. barring (causes a) (pure a)) bytes e λ a rest e₁ e₂.
    let b = barred (causes a) (pure a) rest e₂ in
    let same : a ≡ value = cc b.1 in
    (rw same at b.0, cc b.1)

pub parsed_checked : {A : Type 0} (parser : Parser A) (causes : A → List Cause) (bytes : List ℕ) {value : A} {rest : List ℕ}
    → parser bytes ≡ parsed value rest → NoneApplies (causes value) → checked parser causes bytes ≡ parsed value rest
parsed_checked parser causes bytes {value} {rest} e c = rw e (barring_clear (causes value) (pure value) rest c)

-- What a reply is refused for, a parser is.
pub refused_barring : {A : Type 0} (causes : List Cause) (values : List ℕ) (parser : Parser A) (bytes : List ℕ) {number : ℕ}
    → unless causes (served values) ≡ refused number → barring causes parser bytes ≡ failed number
refused_barring [] values parser bytes e = let z : ◌≡◌ {A = ℕ} 0 1 = cc in absurd (omega arith)
refused_barring ((true gives number) ∷ causes) values parser bytes e = cc
refused_barring ((false gives number) ∷ causes) values parser bytes e = refused_barring causes values parser bytes e

barring_append : {A : Type 0} (these those : List Cause) (parser : Parser A) (bytes : List ℕ)
    → barring these (barring those parser) bytes ≡ barring (these ++ those) parser bytes
barring_append [] those parser bytes = refl
barring_append ((true gives number) ∷ these) those parser bytes = refl
barring_append ((false gives number) ∷ these) those parser bytes = barring_append these those parser bytes

pub resume_barring : {A B : Type 0} (causes : List Cause) (value : A) (next : A → Parser B) (bytes : List ℕ)
    → resume (barring causes (pure value) bytes) next ≡ barring causes (next value) bytes
resume_barring [] value next bytes = refl
resume_barring ((true gives number) ∷ causes) value next bytes = refl
resume_barring ((false gives number) ∷ causes) value next bytes = resume_barring causes value next bytes

-- Checked twice is checked for both lists of causes.
pub checked_twice : {A : Type 0} (parser : Parser A) (these those : A → List Cause) (bytes : List ℕ)
    → checked (checked parser these) those bytes ≡ checked parser (λ value. these value ++ those value) bytes
checked_twice {A} parser these those bytes = go (parser bytes)
  where
    go : (p : Parsed A)
        → resume (resume p (λ a. barring (these a) (pure a))) (λ a. barring (those a) (pure a))
        ≡ resume p (λ a. barring (these a ++ those a) (pure a))
    go (parsed a rest) =
        resume_barring (these a) a (λ a. barring (those a) (pure a)) rest ∙ barring_append (these a) (those a) (pure a) rest
    go (failed number) = refl
