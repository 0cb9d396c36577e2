-- `read_small` meets its contract: a byte without the high bit is the number; otherwise `read_number` says.
use mathlib.Core.Path.{sym}
use native.Mathlib.Omega.{arith}
use Rattle.trial_reader.proofs.Bytes.{none_left, one_byte}
use Rattle.trial_reader.proofs.short.read_small.Goals as goal

pub returns-then-file-at : goal.returns-then-file-at
returns-then-file-at c = let a = c.args in record { says = sym (none_left a.file.now a.at c.if-file-at.true); inside = tt }

pub returns-then-byte-lt128 : goal.returns-then-byte-lt128
returns-then-byte-lt128 c =
    let a = c.args in
    let says = one_byte a.file.now a.at c.from-byte.result (sym c.from-byte.ensures) (omega arith) c.if-byte-lt128.true in
    record { says = sym says; inside = omega arith }
