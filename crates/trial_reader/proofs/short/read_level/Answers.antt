-- `read_level` meets its contract: the first byte without the high bit is the last of the number; behind three bytes `read_number` says.
use mathlib.Core.Path.{sym, ◌∙◌}
use native.Mathlib.Omega.{arith}
use Rattle.trial_reader.proofs.Bytes.{none_left, one_byte, one_left, needless_second, two_bytes, two_left, needless_third}
use Rattle.trial_reader.proofs.Bytes.{three_bytes}
use Rattle.trial_reader.proofs.short.read_level.Goals as goal

pub returns-then-file-at : goal.returns-then-file-at
returns-then-file-at c = let a = c.args in record { says = sym (none_left a.file.now a.at c.if-file-at.true); inside = tt }

pub returns-then-first-lt128 : goal.returns-then-first-lt128
returns-then-first-lt128 c =
    let a = c.args in
    let says = one_byte a.file.now a.at c.from-first.result (sym c.from-first.ensures) (omega arith) c.if-first-lt128.true in
    record { says = sym says; inside = omega arith }

pub returns-then-file-at-2 : goal.returns-then-file-at-2
returns-then-file-at-2 c =
    let a = c.args in
    let says =
    one_left a.file.now a.at c.from-first.result (sym c.from-first.ensures) c.if-first-lt128.false (omega arith) c.if-file-at-2.true in
    record { says = sym says; inside = tt }

pub returns-then-second-eq0 : goal.returns-then-second-eq0
returns-then-second-eq0 c =
    let a = c.args in
    let says =
    needless_second a.file.now a.at c.from-first.result (sym c.from-first.ensures)
    c.if-first-lt128.false (omega arith)
    (sym c.from-second.ensures ∙ c.if-second-eq0.true) in
    record { says = sym says; inside = tt }

pub returns-then-second-lt128 : goal.returns-then-second-lt128
returns-then-second-lt128 c =
    let a = c.args in
    let says =
    two_bytes a.file.now a.at c.from-first.result (sym c.from-first.ensures) c.if-first-lt128.false
    c.from-second.result (sym c.from-second.ensures) (omega arith) c.if-second-eq0.false c.if-second-lt128.true in
    record { says = sym says; inside = omega arith }

pub returns-then-file-at-3 : goal.returns-then-file-at-3
returns-then-file-at-3 c =
    let a = c.args in
    let says =
    two_left a.file.now a.at c.from-first.result (sym c.from-first.ensures) c.if-first-lt128.false
    c.from-second.result (sym c.from-second.ensures) c.if-second-lt128.false (omega arith) c.if-file-at-3.true in
    record { says = sym says; inside = tt }

pub returns-then-third-eq0 : goal.returns-then-third-eq0
returns-then-third-eq0 c =
    let a = c.args in
    let says =
    needless_third a.file.now a.at c.from-first.result (sym c.from-first.ensures) c.if-first-lt128.false
    c.from-second.result (sym c.from-second.ensures) c.if-second-lt128.false (omega arith)
    (sym c.from-third.ensures ∙ c.if-third-eq0.true) in
    record { says = sym says; inside = tt }

pub returns-then-third-lt128 : goal.returns-then-third-lt128
returns-then-third-lt128 c =
    let a = c.args in
    let says =
    three_bytes a.file.now a.at c.from-first.result (sym c.from-first.ensures) c.if-first-lt128.false
    c.from-second.result (sym c.from-second.ensures) c.if-second-lt128.false c.from-third.result
    (sym c.from-third.ensures) (omega arith) c.if-third-eq0.false c.if-third-lt128.true in
    record { says = sym says; inside = omega arith }
