-- `add_block` meets its contract: each turn lengthens the run by one byte.
use mathlib.Core.Path.{◌≡◌, ap}
use Prim.Native.Nat.{◌+◌}
use native.Mathlib.Omega.{arith}
use lib.ListN.{get_or}
use Rattle.squares.proofs.Runs.{none, one, append}
use Rattle.squares.proofs.add_block.Goals as goal

pub loop-i-init : goal.loop-i-init
loop-i-init c = none c.args.out.now c.args.from c.args.to (λ k. get_or c.args.pattern.now k 0)

pub loop-i-preserved : goal.loop-i-preserved
loop-i-preserved c =
    let a = c.args in
    let loop = c.loop-i in
    let inside = c.loop-i-test.true in
    append (omega (arith, inside)) (λ k h. let same : loop.i ≡ loop.i + k = omega arith in ap (λ v. get_or a.pattern.now v 0) same)
    loop.invariant
    (one loop.out (a.from + loop.i) (a.to + loop.i) (get_or a.pattern.now loop.i 0) (omega (arith, loop.invariant.long, inside)))
