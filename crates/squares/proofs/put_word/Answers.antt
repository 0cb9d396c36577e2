-- `put_word` meets its contract: each turn puts one byte more.
use native.Mathlib.Omega.{arith}
use Rattle.squares.proofs.Patterns.{one_put}
use Rattle.squares.proofs.put_word.Goals as goal

pub loop-k-preserved : goal.loop-k-preserved
loop-k-preserved c = one_put (omega (arith, c.loop-k.invariant.long, c.told-pattern, c.loop-k-test.true)) c.loop-k.invariant
