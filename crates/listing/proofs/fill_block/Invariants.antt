-- `fill_block` meets its contract. The invariant: what will be written of the groups from the present one on completes what is to be
-- written of the block.
use mathlib.Core.List.{List, map}
use mathlib.Core.Path.{◌≡◌}
use Prim.Native.Nat.{ℕ, ◌≤◌}
use lib.ListN.{length}
use Rattle.pairs.specs.Words.{words}
use Rattle.pairs.specs.Sequences.{block}
use Rattle.pairs.specs.Pairs.{build}
use Rattle.listing.specs.Filling.{Written}
use Rattle.listing.proofs.Groups.{later}
use Rattle.listing.proofs.fill_block.Given as goal

pub record Going (n k groups skip done : ℕ) (old : List ℕ) (out : List ℕ) (group first filled : ℕ) : Type 0 where
  pub long : length out ≡ length old
  pub few : first ≤ length (words k)
  pub completes : (new : List ℕ) (all : ℕ) → Written (later n k groups group) first out filled new all
      → Written (map build (block n k)) skip old done new all

abbrev pub invariant-loop-group : goal.invariant-loop-group
invariant-loop-group l =
    Going l.fn.block.n l.fn.block.k l.groups l.skip l.done l.initial.out l.out l.group l.first l.filled
