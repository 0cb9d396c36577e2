-- Where some rules accept a file, others accept it with the same content if they have those versions, let follow every level that those
-- let follow, and allow numbers up to 65535: no field takes a higher one. So it is with document 01's rules and today's, since a level
-- above the one before it is above all before it; and with the rules before request i and today's, either way.
use mathlib.Core.Path.{◌≡◌, ◌∙◌}
use mathlib.Core.Bool.{false}
use Prim.Native.Nat.{ℕ, zero, suc, ◌^◌, ◌≤◌}
use mathlib.Core.List.{List, [], ◌∷◌}
use native.Mathlib.Nat.{pow-le-pow_right}
use native.Mathlib.Omega.{arith}
use lib.Dec.{lit<, lit≤}
use borrow.Author.Tests.{ltb-false}
use Rattle.levels.proofs.Ascent.{none_before, one_before}
use Rattle.reply.specs.Reply.{Cause}
use Rattle.reply.proofs.Order.{NoneApplies}
use Rattle.poly.specs.Causes.{code_causes, common_factors}
use Rattle.poly.proofs.Ranges.{inside, within}
use Rattle.leb128.specs.Parser.{parsed, ◌>>=◌, checked, parse_end}
use Rattle.leb128.specs.Number.{parse_number, field, fields}
use Rattle.leb128.proofs.Parser.{with_parsed, checked_parsed, parsed_checked}
use Rattle.leb128.proofs.Number.{number_within}
use Rattle.trial.specs.Rules.{Rules, today}
use Rattle.trial.specs.Levels.{level_causes, parse_levels}
use Rattle.trial.specs.Trial.{Head, Trial, version_causes, degree_causes, size_causes, parse_coprime, parse_head, parse_text, parse_name}
use Rattle.trial.specs.Trial.{parse_lists, parse_body, parse_under, parse}
use Rattle.trial.specs.Claims.{document01, StillClaim, shorter_numbers, SameFilesClaim}
use Rattle.trial.proofs.Trial.{code_small}
use Rattle.trial.proofs.Codec.{parses}

-- What may follow these levels under the rules `those`, may under `these`.
abbrev Follows : Rules → Rules → List ℕ → Type 0
Follows those these before = (level : ℕ) → those.barred before level ≡ false → these.barred before level ≡ false

-- What passes under the rules `those` passes under `these`.
record Wider (those these : Rules) : Type 0 where
  versions : those.highest ≤ these.highest
  few : those.highest ≤ 65535
  first : Follows those these []
  next : (before : List ℕ) (level : ℕ) → Follows those these before → those.barred before level ≡ false
      → Follows those these (level ∷ before)
  -- Three bytes are enough for 65535.
  long : 3 ≤ these.numbers.bytes
  high : 65535 ≤ these.numbers.ceiling

module _ {those these : Rules} (wider : Wider those these) where
  number_still : (bytes : List ℕ) {n : ℕ} {rest : List ℕ} → n ≤ 65535 → parse_number those.numbers bytes ≡ parsed n rest
      → parse_number these.numbers bytes ≡ parsed n rest
  number_still bytes low e =
      let deep : 128 ^ 3 ≤ 128 ^ these.numbers.bytes = pow-le-pow_right (lit< tt) wider.long in
      number_within those.numbers these.numbers bytes (omega (arith, wider.long)) (omega (arith, deep))
      (omega (arith, wider.high)) e

  -- A field in which no number above 65535 passes.
  field_still : (before now : ℕ → List Cause) (bytes : List ℕ) {n : ℕ} {rest : List ℕ} → (NoneApplies (before n) → n ≤ 65535)
      → (NoneApplies (before n) → NoneApplies (now n)) → field those.numbers before bytes ≡ parsed n rest
      → field these.numbers now bytes ≡ parsed n rest
  field_still before now bytes {n} {rest} low clear e =
      let c = checked_parsed (parse_number those.numbers) before bytes e in
      parsed_checked (parse_number these.numbers) now bytes (number_still bytes (low c.0) c.1) (clear c.0)

  fields_still : (causes : ℕ → List Cause) (count : ℕ) (bytes : List ℕ) {ns rest : List ℕ}
      → ((n : ℕ) → NoneApplies (causes n) → n ≤ 65535) → fields those.numbers causes count bytes ≡ parsed ns rest
      → fields these.numbers causes count bytes ≡ parsed ns rest
  fields_still causes zero bytes low e = e
  fields_still causes (suc count) bytes low e =
      with_parsed (field those.numbers causes) _ bytes e λ n r₁ f e₁.
      with_parsed (fields those.numbers causes count) _ r₁ e₁ λ others r₂ o e₂.
      rw (field_still causes causes bytes (low n) (λ c. c) f, fields_still causes count r₁ low o) e₂

  levels_still : (count : ℕ) (before bytes : List ℕ) {levels rest : List ℕ} → Follows those these before
      → parse_levels those count before bytes ≡ parsed levels rest → parse_levels these count before bytes ≡ parsed levels rest
  levels_still zero before bytes follows e = e
  levels_still (suc count) before bytes follows e =
      with_parsed (field those.numbers (level_causes those before)) _ bytes e λ level r₁ f e₁.
      let c = (checked_parsed (parse_number those.numbers) (level_causes those before) bytes f).0 in
      rw (field_still (level_causes those before) (level_causes these before) bytes (λ c. ltb-false 65535 level c.0)
      (λ c. (c.0, (follows level c.1.0, tt))) f)
      (levels_still count (level ∷ before) r₁ (wider.next before level follows c.1.0) e₁)

  lists_still : (order count : ℕ) (bytes : List ℕ) {lists : List (List ℕ)} {rest : List ℕ}
      → parse_lists those order count bytes ≡ parsed lists rest → parse_lists these order count bytes ≡ parsed lists rest
  lists_still order zero bytes e = e
  lists_still order (suc count) bytes e =
      with_parsed (parse_levels those order []) _ bytes e λ levels r₁ l e₁.
      with_parsed (parse_lists those order count) _ r₁ e₁ λ lists r₂ o e₂.
      rw (levels_still order [] bytes wider.first l, lists_still order count r₁ o) e₂

  coprime_still : (v n : ℕ) (bytes : List ℕ) {head : Head} {rest : List ℕ} → n ≤ 6 → parse_coprime those v n bytes ≡ parsed head rest
      → parse_coprime these v n bytes ≡ parsed head rest
  unfolding parse_coprime
  coprime_still v n bytes high e =
      with_parsed (checked (fields those.numbers (code_causes n) (suc v)) common_factors) _ bytes e λ codes r₁ f e₁.
      let c = checked_parsed (fields those.numbers (code_causes n) (suc v)) common_factors bytes f in
      let all = fields_still (code_causes n) (suc v) bytes (λ code clear. omega (arith, code_small n code high clear)) c.1 in
      rw (parsed_checked (fields these.numbers (code_causes n) (suc v)) common_factors bytes all c.0) e₁

  head_still : (file : List ℕ) {head : Head} {rest : List ℕ} → parse_head those file ≡ parsed head rest
      → parse_head these file ≡ parsed head rest
  unfolding parse_head
  head_still file e =
      with_parsed (field those.numbers (version_causes those)) _ file e λ v r₁ fv e₁.
      with_parsed (field those.numbers degree_causes) _ r₁ e₁ λ n r₂ fn e₂.
      let (low, high) = within 2 6 (checked_parsed (parse_number those.numbers) degree_causes r₁ fn).0.0 in
      rw (
        field_still (version_causes those) (version_causes these) file (λ c. omega (arith, (within 1 those.highest c.0).1, wider.few))
            (λ c. let (l, h) = within 1 those.highest c.0 in (inside 1 these.highest l (omega (arith, wider.versions)), tt)) fv,
        field_still degree_causes degree_causes r₁ (λ c. omega arith) (λ c. c) fn,
      )
      (coprime_still v n r₂ high e₂)

  name_still : (bytes : List ℕ) {name rest : List ℕ} → parse_name those bytes ≡ parsed name rest → parse_name these bytes ≡ parsed name rest
  unfolding parse_name
  name_still bytes e =
      with_parsed (field those.numbers size_causes) parse_text bytes e λ size r₁ f e₁.
      rw (field_still size_causes size_causes bytes (λ c. omega (arith, ltb-false 40 size c.0)) (λ c. c) f) e₁

  still : (file : List ℕ) {t : Trial} {rest : List ℕ} → parse_under those file ≡ parsed t rest → parse_under these file ≡ parsed t rest
  unfolding parse_body
  still file e =
      with_parsed (parse_head those) (parse_body those) file e λ head r₁ h e₁.
      with_parsed (parse_lists those (2 ^ head.degree) (suc head.version)) _ r₁ e₁ λ lists r₂ l e₂.
      with_parsed (parse_name those >>= parse_end) _ r₂ e₂ λ name r₃ last e₃.
      with_parsed (parse_name those) parse_end r₂ last λ given r₄ s e₄.
      rw (head_still file h, lists_still (2 ^ head.degree) (suc head.version) r₁ l, name_still r₂ s, e₄) e₃

since_document01 : Wider document01 today
since_document01 =
    record { versions = lit≤ tt; few = lit≤ tt; first = none_before; next = one_before; long = lit≤ tt; high = lit≤ tt }

before_longer : Wider today shorter_numbers
before_longer =
    record {
      versions = lit≤ tt;
      few = lit≤ tt;
      first = λ level e. e;
      next = λ before level s c next e. e;
      long = lit≤ tt;
      high = lit≤ tt;
    }

since_shorter : Wider shorter_numbers today
since_shorter =
    record {
      versions = lit≤ tt;
      few = lit≤ tt;
      first = λ level e. e;
      next = λ before level s c next e. e;
      long = lit≤ tt;
      high = lit≤ tt;
    }

pub still_accepted : StillClaim
unfolding parse
still_accepted file t rest e rooms roomy = parses rooms file roomy ∙ still since_document01 file e

pub same_files : SameFilesClaim
unfolding parse
same_files file t rest = (still since_shorter file, still before_longer file)
