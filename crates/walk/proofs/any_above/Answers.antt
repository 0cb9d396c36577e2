-- A turn of the loop looks at the number behind those that were looked at.
use mathlib.Core.Bool.{Bool, ◌||◌}
use mathlib.Core.Path.{sym, ap, ◌∙◌}
use Prim.Native.Nat.{ℕ, ◌<◌}
use native.Mathlib.Omega.{arith}
use lib.Dec.{ltb}
use lib.ListN.{length, get_or}
use Rattle.walk.proofs.Above.{above_next}
use Rattle.walk.proofs.any_above.Goals as goal

pub loop-number-preserved : goal.loop-number-preserved
loop-number-preserved c =
    let a = c.args in
    let i : ℕ = c.loop-number.number-index in
    let h : i < length a.numbers.now = omega (arith, c.told-numbers, c.loop-number-test.true) in
    ap (λ (v : Bool). v || ltb a.most (get_or a.numbers.now i 0)) c.loop-number.invariant ∙ sym (above_next a.most i a.numbers.now h)
