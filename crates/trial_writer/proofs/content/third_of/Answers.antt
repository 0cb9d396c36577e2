-- `third_of` meets its contract: what is neither 1 nor 2 is below the one or above the other.
use mathlib.Core.Path.{refl}
use native.Mathlib.Decide.{dec_lt}
use native.Mathlib.Omega.{arith}
use Rattle.poly.proofs.Ranges.{outside_below, outside_above}
use Rattle.trial_writer.proofs.content.third_of.Goals as goal

pub returns-in_default : goal.returns-in_default
returns-in_default c =
    let v = c.args.version in
    (elim (dec_lt v 1) [ yes low ↦ outside_below 1 2 low | no high ↦ outside_above 1 2 {n = v} (omega arith) ], refl)
