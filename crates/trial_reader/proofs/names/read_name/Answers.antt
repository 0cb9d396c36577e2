-- `read_name` meets its contract: the size is read, and each test is one of the causes behind it.
use mathlib.Core.Path.{◌≡◌, sym}
use mathlib.Core.Bool.{Bool, not}
use Prim.Native.Nat.{ℕ, ◌+◌, ◌-◌}
use mathlib.Core.List.{List}
use lib.ListN.{take, drop}
use native.Mathlib.Omega.{arith}
use Rattle.std.proofs.lemmas.Result.{err_from_is_err_and}
use Rattle.trial.specs.Trial.{any_unprintable, parse_name}
use Rattle.trial.proofs.Flags.{denied, upheld}
use Rattle.trial_reader.proofs.Part.{part_within}
use Rattle.trial_reader.proofs.Text.{name_missing, name_unprintable, name_trails, name_last}
use Rattle.trial_reader.proofs.names.read_name.Goals as goal

-- What the test of the name's bytes says of them.
judged : (file : List ℕ) (start size : ℕ) {good : Bool} → good ≡ not (any_unprintable (take (start + size - start) (drop start file)))
    → good ≡ not (any_unprintable (take size (drop start file)))
judged file start size g = rw (part_within file start size) at g

pub returns-in_err-size : goal.returns-in_err-size
unfolding parse_name
returns-in_err-size c =
    let p = err_from_is_err_and c.from_residual.result c.from_residual.ensures.1 in
    rw (p.1, p.2) (record { says = rw (sym c.in_err-size.ensures.says); inside = tt })

pub returns-then-file-start : goal.returns-then-file-start
returns-then-file-start c =
    let a = c.args in
    let v = c.in_ok-size in
    record { says = sym (name_missing a.file.now a.at v.size v.start (sym v.ensures.says) c.if-file-start.true); inside = tt }

pub returns-then-not-printable : goal.returns-then-not-printable
returns-then-not-printable c =
    let a = c.args in
    let v = c.in_ok-size in
    let judge = judged a.file.now v.start v.size c.printable.ensures in
    let says =
    name_unprintable a.file.now a.at v.size v.start (sym v.ensures.says) c.if-file-start.false
    (denied c.printable.result _ judge c.if-not-printable.true) in
    record { says = sym says; inside = tt }

pub returns-then-end-file : goal.returns-then-end-file
returns-then-end-file c =
    let a = c.args in
    let v = c.in_ok-size in
    let judge = judged a.file.now v.start v.size c.printable.ensures in
    let says =
    name_trails a.file.now a.at v.size v.start (sym v.ensures.says) c.if-file-start.false
    (upheld c.printable.result _ judge c.if-not-printable.false) c.if-end-file.true in
    record { says = sym says; inside = tt }

pub returns : goal.returns
returns c =
    let a = c.args in
    let v = c.in_ok-size in
    let judge = judged a.file.now v.start v.size c.printable.ensures in
    let says =
    name_last a.file.now a.at v.size v.start (sym v.ensures.says) c.if-file-start.false
    (upheld c.printable.result _ judge c.if-not-printable.false) c.if-end-file.false in
    record { says = sym says; inside = omega (arith, v.ensures.inside) }
