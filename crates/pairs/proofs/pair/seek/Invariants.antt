-- `seek` meets its contract. The invariant: what stands at the place, counted from the block on, is what stands at the position.
use mathlib.Core.List.{List, []}
use mathlib.Core.Path.{◌≡◌}
use Prim.Native.Nat.{ℕ, suc, ◌-◌, ◌<◌}
use Rattle.loops.proofs.Loops as loops
use Rattle.pairs.proofs.Blocks.{block_size, block_at}
use Rattle.pairs.proofs.Sequences.{sequence_at}
use Rattle.pairs.proofs.pair.seek.Given as goal

-- what stands at a place of the m blocks from block k on
abbrev pub at : ℕ → ℕ → ℕ → ℕ → List ℕ
at n k m place = loops.seek (block_size n) (block_at n) [] k m place

pub record Seeking (n position m k place : ℕ) : Type 0 where
  pub degree : m ≡ n
  pub inside : place < loops.before (block_size n) k (suc n - k)
  pub is : at n k (suc n - k) place ≡ sequence_at n position

abbrev pub invariant-loop-place : goal.invariant-loop-place
invariant-loop-place l = Seeking l.n l.position l.block.n l.block.k l.place

abbrev pub decreases-loop-place : goal.decreases-loop-place
decreases-loop-place l = l.block.n - l.block.k
