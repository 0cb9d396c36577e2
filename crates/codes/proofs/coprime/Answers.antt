-- `coprime` meets its contract: the bit read is the one that `coprime_bit` speaks of, since no bit of 2^(n-1) is lost.
use mathlib.Core.Bool.{Bool, true, false, cond}
use mathlib.Core.Path.{◌≡◌, refl}
use Prim.Native.Nat.{ℕ, ◌-◌, ◌*◌, ◌%◌, ◌^◌}
use native.Mathlib.Omega.{arith}
use lib.Dec.{eqb}
use Rattle.poly.proofs.Shifts.{one_shl}
use Rattle.poly.specs.Coprime.{gcd}
use Rattle.codes.specs.Inner.{InTable}
use Rattle.codes.proofs.Halves.{least, few, half_of, index_lt, coprime_bit}
use Rattle.codes.proofs.coprime.Goals as goal

least_is : {n code : ℕ} → InTable n code → 1 * 2 ^ (n - 1) % 2 ^ 32 ≡ least n
least_is {n} stands = one_shl 32 (n - 1) (omega (arith, stands.high))

pub overflow_shr-result : goal.overflow_shr-result
overflow_shr-result c = let g-stands = c.requires.1 in omega (arith, least_is g-stands, index_lt g-stands, few (half_of g-stands))

bit_told : (b : Bool) → eqb (cond b 1 0) 1 ≡ b
bit_told true = refl
bit_told false = refl

pub returns : goal.returns
returns c =
    let (f-stands, g-stands) = c.requires in
    let a = c.args in
    rw (c.coprimes.ensures, least_is g-stands, coprime_bit f-stands g-stands) (bit_told (eqb (gcd 2 a.f a.g) 1))
