-- `begun` meets its contract: from degree 2 on the first pair is the one that is computed, and below there is none.
use mathlib.Core.Path.{◌≡◌}
use Prim.Native.Nat.{◌*◌, ◌%◌, ◌^◌, ◌≤◌}
use native.Mathlib.Nat.{pow-le-pow_right}
use native.Mathlib.Omega.{arith}
use lib.Dec.{lit<}
use lib.ListN.{replicate}
use Rattle.walk.proofs.Keeping.{next_end, holding}
use Rattle.walk.proofs.Beginning.{nothing, first_pair}
use Rattle.walk.proofs.begun.Goals as goal

small : (c : goal.Then-n-ge2) → 2 ^ c.args.n ≤ 2 ^ 31
small c = pow-le-pow_right (lit< tt) {i = c.args.n} {j = 31} c.requires

pub returns-then-n-ge2 : goal.returns-then-n-ge2
returns-then-n-ge2 c =
    let n = c.args.n in
    let power : 1 * 2 ^ n % 2 ^ 32 ≡ 2 ^ n = omega (arith, small c) in
    rw power (holding n 0 (replicate 8 0) (replicate 8 0) (first_pair n c.if-n-ge2.true c.requires))

pub returns-else-n-ge2 : goal.returns-else-n-ge2
returns-else-n-ge2 c =
    let n = c.args.n in
    holding n 0 (replicate 8 0) (replicate 8 0) (next_end n 0 (nothing n c.if-n-ge2.false))
