-- `read_head` meets its contract: each field hands the position behind it to the next.
use mathlib.Core.Path.{sym}
use Rattle.std.proofs.lemmas.Result.{err_from_is_err_and}
use Rattle.poly.proofs.Ranges.{within}
use Rattle.leb128.specs.Number.{number}
use Rattle.leb128.proofs.Parser.{checked_parsed}
use lib.ListN.{drop}
use Rattle.trial.specs.Rules.{today}
use Rattle.trial.specs.Trial.{version_causes, degree_causes, parse_head}
use Rattle.trial_reader.proofs.fields.read_head.Goals as goal

pub returns-in_err-version : goal.returns-in_err-version
unfolding parse_head
returns-in_err-version c =
    let p = err_from_is_err_and c.from_residual.result c.from_residual.ensures.1 in
    rw (p.1, p.2) (record { says = rw (sym c.in_err-version.ensures.says); inside = tt })

pub returns-in_err-degree : goal.returns-in_err-degree
unfolding parse_head
returns-in_err-degree c =
    let p = err_from_is_err_and c.from_residual-in_err-degree.result c.from_residual-in_err-degree.ensures.1 in
    rw (p.1, p.2) (record { says = rw (sym c.in_ok-version.ensures.says, sym c.in_err-degree.ensures.says); inside = tt })

pub read_codes-requires : goal.read_codes-requires
read_codes-requires c =
    let file = c.args.file.now in
    let version = (checked_parsed number (version_causes today) file (sym c.in_ok-version.ensures.says)).0.0 in
    let degree = (checked_parsed number degree_causes (drop c.in_ok-version.at file) (sym c.in_ok-degree.ensures.says)).0.0 in
    let (low, high) = within 1 2 version in
    (low, high, degree)

pub returns : goal.returns
unfolding parse_head
returns c =
    let codes = c.read_codes.ensures in
    record { says = rw (sym c.in_ok-version.ensures.says, sym c.in_ok-degree.ensures.says) codes.says; inside = codes.inside }
