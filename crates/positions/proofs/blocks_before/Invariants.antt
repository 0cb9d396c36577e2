-- `blocks_before` meets its contract. The invariant: size counts the sequences of fewer quotients than the block's.
use mathlib.Core.Path.{◌≡◌}
use Prim.Native.Nat.{ℕ, ◌-◌, ◌≤◌}
use Rattle.loops.proofs.Loops.{before}
use Rattle.pairs.proofs.Blocks.{block_size}
use Rattle.positions.proofs.blocks_before.Given as goal

pub record Passed (n k m j size : ℕ) : Type 0 where
  pub degree : m ≡ n
  pub within : j ≤ k
  pub sized : size ≡ before (block_size n) 2 (j - 2)

abbrev pub invariant-loop-block : goal.invariant-loop-block
invariant-loop-block l = Passed l.n l.k l.block.n l.block.k l.size

abbrev pub decreases-loop-block : goal.decreases-loop-block
decreases-loop-block l = l.k - l.block.k
