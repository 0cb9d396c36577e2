-- `survey` meets its contract: the head, and then the body.
use mathlib.Core.Path.{◌≡◌, sym}
use Rattle.std.proofs.lemmas.Result.{err_from_is_err_and}
use mathlib.Core.Bool.{false}
use mathlib.Core.List.{List}
use Prim.Native.Nat.{ℕ, suc}
use Rattle.poly.specs.Limits.{outside}
use Rattle.poly.specs.Causes.{code_causes, common_factors}
use Rattle.leb128.specs.Parser.{parsed, checked}
use Rattle.leb128.specs.Number.{limits64, number, field, fields}
use Rattle.leb128.proofs.Parser.{with_parsed, checked_parsed}
use Rattle.trial.specs.Rules.{today}
use Rattle.trial.specs.Trial.{Head, version_causes, degree_causes, parse_coprime, parse_head, parse}
use Rattle.trial.proofs.Order.{order_there, order_is, order_few}
use Rattle.trial_reader.proofs.reader.survey.Goals as goal

-- A head that was read has the degree of a sheet.
head-degree : (bytes : List ℕ) {head : Head} {rest : List ℕ} → parse_head today bytes ≡ parsed head rest
    → outside 2 6 head.degree ≡ false
unfolding parse_head parse_coprime
head-degree bytes {head} e =
    with_parsed (field limits64 (version_causes today)) _ bytes e λ v r₁ p₁ e₁.
    with_parsed (field limits64 degree_causes) _ r₁ e₁ λ n r₂ p₂ e₂.
    with_parsed (checked (fields limits64 (code_causes n) (suc v)) common_factors) _ r₂ e₂ λ codes r₃ p₃ e₃.
    let head_is : head ≡ record { version = v; degree = n; codes = codes } = cc in
    rw head_is (checked_parsed number degree_causes r₁ p₂).0.0

pub returns-in_err-head : goal.returns-in_err-head
unfolding parse
returns-in_err-head c =
    let p = err_from_is_err_and c.from_residual.result c.from_residual.ensures.1 in
    rw (p.1, p.2) (record { says = rw (sym c.in_err-head.ensures.says); inside = tt })

pub returns-in_err-order : goal.returns-in_err-order
returns-in_err-order c =
    let head = c.in_ok-head.head in
    absurd (order_there head.degree (head-degree c.args.file.now (sym c.in_ok-head.ensures.says)) c.in_err-order.ensures)

pub survey_body-requires : goal.survey_body-requires
survey_body-requires c =
    let head = c.in_ok-head.head in
    let degree = head-degree c.args.file.now (sym c.in_ok-head.ensures.says) in
    let same = order_is head.degree degree c.in_ok-order.ensures in
    (same, rw same (order_few head.degree degree), c.in_ok-head.ensures.inside)

pub returns : goal.returns
unfolding parse
returns c =
    let body = c.survey_body.ensures in
    record { says = rw (sym c.in_ok-head.ensures.says) body.says; inside = body.inside }
