-- `three_codes` meets its contract: all three codes have passed by themselves, so of what the test of three refuses them for only a common
-- factor of two is left.
use mathlib.Core.Path.{sym, ◌∙◌}
use mathlib.Core.List.{[], ◌∷◌}
use native.Mathlib.Omega.{arith}
use Rattle.std.proofs.lemmas.Result.{err_from_is_err_and}
use Rattle.reply.proofs.Order.{none_applies}
use Rattle.poly.specs.Causes.{own_causes, common_factors}
use Rattle.poly.proofs.Ranges.{within}
use Rattle.leb128.proofs.Parser.{barring_clear, refused_barring}
use Rattle.trial_reader.proofs.Heads.{code_told, code_clear, degree_passed, factors_said}
use Rattle.trial_reader.proofs.fields.three_codes.Goals as goal

pub code_field-requires : goal.code_field-requires
code_field-requires c =
    let a = c.args in
    let degree = degree_passed a.degree (own_causes a.degree (a.f ∷ a.g ∷ [])) c.requires in
    omega (arith, (within 2 6 degree).1)

pub returns-in_err-check_three : goal.returns-in_err-check_three
returns-in_err-check_three c =
    let a = c.args in
    let h = c.in_ok-h.h in
    let read = c.in_ok-h.ensures in
    let p = err_from_is_err_and c.from_residual-in_err-check_three.result c.from_residual-in_err-check_three.ensures.1 in
    let refusal = c.in_err-check_three.ensures ∙ factors_said a.degree a.f a.g h c.requires (code_clear a.degree a.file.now a.at read) in
    rw (p.1, p.2)
    (record {
      says =
          rw (code_told a.degree a.file.now a.at read)
          (sym (refused_barring (common_factors (a.f ∷ a.g ∷ h ∷ [])) [] _ _ (sym refusal)));
      inside = tt;
    })

pub returns : goal.returns
returns c =
    let a = c.args in
    let codes = a.f ∷ a.g ∷ c.in_ok-h.h ∷ [] in
    let read = c.in_ok-h.ensures in
    let passed =
    c.in_ok-check_three.ensures ∙ factors_said a.degree a.f a.g c.in_ok-h.h c.requires (code_clear a.degree a.file.now a.at read) in
    record {
      says =
          rw (code_told a.degree a.file.now a.at read)
          (sym (barring_clear (common_factors codes) _ _ (none_applies (common_factors codes) [] [] (sym passed))));
      inside = read.inside;
    }
