-- `version_field` meets its contract: the number is read, and the test of its range is the field's cause.
use Prim.Native.Nat.{◌≤◌}
use Rattle.reply.specs.declared.Refusal.TheVariants.{Version}
use Rattle.std.specs.Prelude.{IsTrue, ◌↔◌}
use Rattle.std.proofs.Common.{rules, tests}
use Rattle.leb128.specs.Number.{number}
use Rattle.leb128.proofs.Told.{barred_field, clear_field}
use Rattle.trial.specs.Rules.{today}
use Rattle.trial.specs.Trial.{version_causes}
use Rattle.trial.proofs.Flags.{denied, upheld, in_range}
use Rattle.trial_reader.proofs.fields.version_field.Goals as goal

pub returns-then-not-contains : goal.returns-then-not-contains
returns-then-not-contains c =
    let a = c.args in
    let v = c.in_ok-version.version in
    let test : IsTrue c.contains.result ↔ ((1 ≤ v) × (v ≤ 2)) = search (rules, tests) in
    barred_field (version_causes today) number a.file.now a.at c.in_ok-version.ensures Version
    (rw (denied c.contains.result _ (in_range 1 2 v _ test) c.if-not-contains.true))

pub returns : goal.returns
returns c =
    let a = c.args in
    let v = c.in_ok-version.version in
    let test : IsTrue c.contains.result ↔ ((1 ≤ v) × (v ≤ 2)) = search (rules, tests) in
    clear_field (version_causes today) number a.file.now a.at c.in_ok-version.ensures
    (upheld c.contains.result _ (in_range 1 2 v _ test) c.if-not-contains.false, tt)
