-- `add` meets its contract. The invariant: the first `at` bytes are repeated, and the next block, if any, lies within the size and
-- begins at a multiple of the block's length.
use mathlib.Core.Path.{◌≡◌}
use Prim.Native.Nat.{ℕ, ◌+◌, ◌-◌, ◌*◌, ◌≤◌, ◌<◌}
use lib.ListN.{length}
use Rattle.squares.specs.Doubling.{by_turns, Added}
use Rattle.squares.proofs.add.Given as goal

-- a block that begins at `at`, behind `before` others
pub record Block (block size count at : ℕ) : Type 0 where
  pub before : ℕ
  pub aligned : at ≡ before * block
  pub some : 0 < count
  pub few : count ≤ block
  pub within : at + count ≤ size

abbrev pub invariant-loop-at : goal.invariant-loop-at
invariant-loop-at l =
    (l.at ≤ l.size) × (l.at < l.size → Block (length l.pattern) l.size l.count l.at)
    × Added l.initial.out 0 l.size l.at (by_turns l.pattern) l.out

abbrev pub decreases-loop-at : goal.decreases-loop-at
decreases-loop-at l = l.size - l.at
