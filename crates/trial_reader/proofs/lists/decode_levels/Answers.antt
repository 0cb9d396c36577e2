-- `decode_levels` meets its contract: what a level is refused for stops the parser too, and a level read is one more passed.
use mathlib.Core.Path.{sym}
use native.Mathlib.Omega.{arith}
use Rattle.trial_reader.proofs.Passes.{no_number, too_high, one_passed, front, one_stored}
use Rattle.trial_reader.proofs.lists.decode_levels.Goals as goal

pub returns-in-Err : goal.returns-in-Err
returns-in-Err c =
    let s = c.loop-i.invariant in
    record {
      few = omega (arith, c.requires.1, s.kept, s.passed.few);
      says = rw (front s) (no_number s.passed c.loop-i-test.true _ (sym c.in-Err.ensures.says));
      inside = tt;
    }

pub returns-then-level-gt65535 : goal.returns-then-level-gt65535
returns-then-level-gt65535 c =
    let s = c.loop-i.invariant in
    record {
      few = omega (arith, c.requires.1, s.kept, s.passed.few);
      says = rw (front s) (too_high s.passed c.loop-i-test.true (sym c.in-Ok.ensures.says) c.if-level-gt65535.true);
      inside = tt;
    }

pub loop-i-preserved : goal.loop-i-preserved
loop-i-preserved c =
    let s = c.loop-i.invariant in
    let read = c.in-Ok.ensures in
    one_stored s c.in-Ok.level _ (omega (arith, c.requires.1))
    (one_passed s.passed c.loop-i-test.true c.in-Ok.level _ (sym read.says) c.if-level-gt65535.false)
    read.inside
