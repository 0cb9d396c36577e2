-- `read_number` meets its contract: the first byte decides, and behind a byte with the high bit set `read_more` goes on.
use mathlib.Core.Path.{sym}
use native.Mathlib.Omega.{arith}
use lib.Dec.{lit<}
use borrow.Author.Tests.{le-ltb}
use Rattle.leb128.specs.Number.{parse_number}
use Rattle.leb128.proofs.Groups.{groups_end, groups_last, groups_more}
use Rattle.leb128.proofs.reading.read_number.Goals as goal

pub returns-then-file-at : goal.returns-then-file-at
unfolding parse_number
returns-then-file-at c =
    let a = c.args in
    record { says = rw (groups_end a.file.now 10 a.at (lit< tt) c.if-file-at.true); inside = tt }

pub returns-then-byte-lt128 : goal.returns-then-byte-lt128
unfolding parse_number
returns-then-byte-lt128 c =
    let a = c.args in
    let w = c.from-byte in
    let small = c.if-byte-lt128.true in
    record {
      says =
          rw (
            groups_last a.file.now 10 a.at (lit< tt) w.result c.if-file-at.false (sym w.ensures) small,
            le-ltb 18446744073709551615 w.result (omega arith),
          );
      inside = omega arith;
    }

pub returns : goal.returns
unfolding parse_number
returns c =
    let a = c.args in
    let w = c.from-byte in
    let there = c.if-file-at.false in
    record {
      says =
          rw (groups_more a.file.now 10 a.at (lit< tt) w.result there (sym w.ensures) c.if-byte-lt128.false)
          c.read_more.ensures.says;
      inside = c.read_more.ensures.inside;
    }
