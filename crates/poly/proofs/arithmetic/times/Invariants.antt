-- `times` meets its contract. The invariant: the sum is the product of b and the bits of a that were read, a / 2^place.
use mathlib.Core.Path.{◌≡◌}
use Prim.Native.Nat.{◌/◌, ◌^◌}
use Rattle.poly.specs.Code.{mul}
use Rattle.poly.proofs.arithmetic.times.Given as goal

abbrev pub invariant-loop-place : goal.invariant-loop-place
invariant-loop-place l = l.sum ≡ mul 2 (l.a / 2 ^ l.place) l.b
