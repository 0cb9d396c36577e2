-- `gcd` meets its contract: a division keeps the greatest common divisor, and the remainder is smaller than the divisor.
use mathlib.Core.Path.{sym, ap, ◌∙◌}
use Rattle.poly.specs.Coprime.{gcd}
use Rattle.euclid.proofs.Steps.{divided_gcd, divided_less}
use Rattle.euclid.proofs.gcd.Goals as goal

pub loop-b-smaller : goal.loop-b-smaller
loop-b-smaller c =
    let l = c.loop-b in
    divided_less l.a l.b c.loop-b-test.true c.divide-d.ensures

pub loop-b-preserved : goal.loop-b-preserved
loop-b-preserved c =
    let l = c.loop-b in
    sym (divided_gcd l.a l.b c.loop-b-test.true c.divide-d.ensures) ∙ l.invariant

pub returns : goal.returns
unfolding gcd
returns c = ap (gcd 2 c.loop-b.a) (sym c.loop-b-test.false) ∙ c.loop-b.invariant
