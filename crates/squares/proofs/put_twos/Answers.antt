-- `put_twos` meets its contract: each turn stores the two symbols of a site behind those of the sites before.
use mathlib.Core.Path.{◌≡◌}
use Prim.Native.Nat.{ℕ, suc, ◌+◌, ◌*◌}
use native.Mathlib.Numerals.{add-one}
use native.Mathlib.Omega.{arith}
use Rattle.squares.proofs.Patterns.{one_more_lem, all_sites}
use Rattle.squares.proofs.put_twos.Goals as goal

pub loop-i-init : goal.loop-i-init
loop-i-init c = record { most = omega arith; long = c.told-pattern; at = λ site h hk. absurd (omega arith) }

pub loop-i-preserved : goal.loop-i-preserved
loop-i-preserved c =
    let i : ℕ = c.loop-i.i in
    let next : i + 1 ≡ suc i = add-one i in
    let second : 2 * i + 1 ≡ suc (2 * i) = add-one (2 * i) in
    rw (next, second) (one_more_lem _ c.loop-i-test.true (omega arith) c.loop-i.invariant)

pub returns : goal.returns
returns c =
    let all : c.loop-i.i ≡ 64 = omega (arith, c.loop-i-test.false, c.loop-i.invariant.most) in
    all_sites _ (omega arith) (rw all at c.loop-i.invariant)
