-- `gcd` meets its contract. The invariant: a and b have the same greatest common divisor as f and g; b falls.
use mathlib.Core.Path.{◌≡◌}
use Rattle.poly.specs.Coprime.{gcd}
use Rattle.euclid.proofs.gcd.Given as goal

abbrev pub invariant-loop-b : goal.invariant-loop-b
invariant-loop-b l = gcd 2 l.a l.b ≡ gcd 2 l.f l.g

abbrev pub decreases-loop-b : goal.decreases-loop-b
decreases-loop-b l = l.b
