-- `degree_field` meets its contract: a number of more than 32 bits is no degree of a sheet either.
use native.Mathlib.Omega.{arith}
use Rattle.reply.specs.declared.Refusal.TheVariants.{SheetDegree}
use Rattle.poly.proofs.Ranges.{outside_above}
use Rattle.leb128.specs.Number.{number}
use Rattle.leb128.proofs.Told.{barred_field}
use Rattle.trial.specs.Trial.{degree_causes}
use Rattle.trial_reader.proofs.fields.degree_field.Goals as goal

pub returns-in_default : goal.returns-in_default
returns-in_default c =
    let a = c.args in
    let n = c.in_ok-n.n in
    barred_field degree_causes number a.file.now a.at c.in_ok-n.ensures SheetDegree
    (rw (outside_above 2 6 {n = n} (omega (arith, c.in_default.ensures))))
