-- What a turn of the loop reads, by what is known of the numbers before it.
use mathlib.Core.Path.{sym}
use Rattle.std.proofs.lemmas.Result.{err_from_is_err_and}
use Rattle.saved.proofs.Eights.{all_read, not_read, too_high, one_read}
use Rattle.saved.proofs.reading.read_eight.Goals as goal

pub returns-in_err-value : goal.returns-in_err-value
returns-in_err-value c =
    let p = err_from_is_err_and c.from_residual.result c.from_residual.ensures.1 in
    rw (p.1, p.2)
    (record { says = sym (not_read c.loop-number.invariant c.loop-number-test.true (sym c.in_err-value.ensures.says)); inside = tt })

pub returns-then-most-value : goal.returns-then-most-value
returns-then-most-value c =
    record {
      says =
          sym (too_high c.loop-number.invariant c.loop-number-test.true _ _ (sym c.in_ok-value.ensures.says) c.if-most-value.true);
      inside = tt;
    }

pub loop-number-preserved : goal.loop-number-preserved
loop-number-preserved c =
    let read = c.in_ok-value.ensures in
    one_read c.loop-number.invariant c.loop-number-test.true _ _ (sym read.says) c.if-most-value.false read.inside

pub returns : goal.returns
returns c =
    record { says = sym (all_read c.loop-number.invariant c.loop-number-test.false); inside = c.loop-number.invariant.inside }
