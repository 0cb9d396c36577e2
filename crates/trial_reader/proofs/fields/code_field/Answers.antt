-- `code_field` meets its contract: what `check` refuses a code for, the field is refused for.
use mathlib.Core.Path.{sym}
use mathlib.Core.List.{[]}
use Prim.Native.Nat.{suc}
use native.Mathlib.Omega.{arith}
use lib.Pow.{pow_mono}
use Rattle.std.proofs.lemmas.Result.{err_from_is_err_and}
use Rattle.reply.specs.declared.Refusal.TheVariants.{CodeDegree}
use Rattle.reply.proofs.Order.{none_applies}
use Rattle.poly.specs.Causes.{code_causes}
use Rattle.poly.proofs.Ranges.{off_degree_lem}
use Rattle.leb128.specs.Parser.{pure}
use Rattle.leb128.specs.Number.{number}
use Rattle.leb128.proofs.Parser.{refused_barring}
use Rattle.leb128.proofs.Told.{barred_field, clear_field}
use Rattle.trial_reader.proofs.fields.code_field.Goals as goal

pub returns-in_default : goal.returns-in_default
unfolding code_causes
returns-in_default c =
    let a = c.args in
    let code = c.in_ok-code.code in
    let above = pow_mono {i = suc a.n} {j = 32} (omega (arith, c.requires)) in
    let off = off_degree_lem a.n code (λ h. omega (arith, h.high, above, c.in_default.ensures)) in
    barred_field (code_causes a.n) number a.file.now a.at c.in_ok-code.ensures CodeDegree (rw off)

pub returns-in_err-check : goal.returns-in_err-check
returns-in_err-check c =
    let a = c.args in
    let code = c.in-Ok.code in
    let read = rw (← c.in-Ok.ensures.1) at c.in_ok-code.ensures in
    let p = err_from_is_err_and c.from_residual-in_err-check.result c.from_residual-in_err-check.ensures.1 in
    let barred = refused_barring (code_causes a.n code) [] (pure code) _ (sym c.in_err-check.ensures) in
    rw (p.1, p.2) (barred_field (code_causes a.n) number a.file.now a.at read _ barred)

pub returns : goal.returns
returns c =
    let a = c.args in
    let read = rw (← c.in-Ok.ensures.1) at c.in_ok-code.ensures in
    clear_field (code_causes a.n) number a.file.now a.at read
    (none_applies (code_causes a.n c.in-Ok.code) [] [] (sym c.in_ok-check.ensures))
