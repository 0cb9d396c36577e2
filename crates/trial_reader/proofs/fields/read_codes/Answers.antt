-- `read_codes` meets its contract: the field of f hands the position behind it to that of g, and that to what the version has behind it.
use mathlib.Core.Path.{◌≡◌}
use native.Mathlib.Omega.{arith}
use Rattle.std.proofs.lemmas.Result.{err_from_is_err_and}
use Rattle.poly.proofs.Ranges.{within}
use Rattle.trial_reader.proofs.Heads.{first_refused, second_refused, both_passed, both_read, three_read}
use Rattle.trial_reader.proofs.fields.read_codes.Goals as goal

pub code_field-requires : goal.code_field-requires
code_field-requires c = omega (arith, (within 2 6 c.requires.2).1)

pub returns-in_err-f : goal.returns-in_err-f
returns-in_err-f c =
    let a = c.args in
    let p = err_from_is_err_and c.from_residual.result c.from_residual.ensures.1 in
    rw (p.1, p.2) (first_refused a.degree a.file.now a.at a.version c.in_err-f.ensures)

pub code_field-requires-2 : goal.code_field-requires-2
code_field-requires-2 c = omega (arith, (within 2 6 c.requires.2).1)

pub returns-in_err-g : goal.returns-in_err-g
returns-in_err-g c =
    let a = c.args in
    let p = err_from_is_err_and c.from_residual-in_err-g.result c.from_residual-in_err-g.ensures.1 in
    rw (p.1, p.2) (second_refused a.degree a.file.now a.at c.in_ok-f.ensures a.version c.requires.0 c.in_err-g.ensures)

pub returns-then-version-eq1 : goal.returns-then-version-eq1
returns-then-version-eq1 c =
    let a = c.args in
    rw c.if-version-eq1.true (both_read a.degree a.file.now a.at c.in_ok-f.ensures c.in_ok-g.ensures c.two_codes.ensures)

pub three_codes-requires : goal.three_codes-requires
three_codes-requires c =
    let a = c.args in
    both_passed a.degree a.file.now a.at c.in_ok-f.ensures c.in_ok-g.ensures c.requires.2

pub returns : goal.returns
returns c =
    let a = c.args in
    let two : a.version ≡ 2 = omega (arith, c.requires.0, c.requires.1, c.if-version-eq1.false) in
    rw two (three_read a.degree a.file.now a.at c.in_ok-f.ensures c.in_ok-g.ensures c.three_codes.ensures)
