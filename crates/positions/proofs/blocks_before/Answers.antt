-- `blocks_before` meets its contract: the size of each block passed is added, and the sum stays below that of the list.
use mathlib.Core.Path.{◌≡◌, sym, ap, ap₂, ◌∙◌}
use Prim.Native.Nat.{ℕ, ◌+◌, ◌-◌, ◌^◌, ◌≤◌, ◌<◌}
use native.Mathlib.Omega.{arith}
use lib.ListN.{length}
use Rattle.loops.proofs.Loops.{before}
use Rattle.pairs.specs.Sequences.{block}
use Rattle.pairs.proofs.Blocks.{block_size, listed_block}
use Rattle.pairs.proofs.Stepping.{next_is}
use Rattle.positions.proofs.Preceding.{length_before, blocks_next, blocks_within, sequences_lt}
use Rattle.positions.proofs.blocks_before.Invariants.{Passed}
use Rattle.positions.proofs.blocks_before.Goals as goal

-- in block j, its size s
module _ {n k m j size : ℕ} (p : Passed n k m j size) (low : 2 ≤ j) (s : ℕ) (is : s ≡ length (block m j)) where
  size_is : s ≡ block_size n j
  size_is = is ∙ (listed_block m j).long ∙ ap (λ v. block_size v j) p.degree

  room : k ≤ n → n < 32 → size + s < 2 ^ 60
  room le small = omega (arith, size_is, p.sized, p.within, blocks_within n j low (omega (arith, p.within)), sequences_lt n small)

  passes : {m' j' : ℕ} → j < k → m' ≡ m → j' ≡ j + 1 → Passed n k m' j' (size + s)
  passes less e e' = rw e' (record {
    degree = e ∙ p.degree;
    within = omega (arith, less);
    sized = ap₂ ◌+◌ p.sized size_is ∙ sym (blocks_next n j low);
  })

pub overflow_add-size : goal.overflow_add-size
overflow_add-size c =
    let l = c.loop-block in
    omega (arith, room l.invariant l.block.le_k _ c.size-size.ensures c.requires.1 c.requires.2)

pub loop-block-preserved : goal.loop-block-preserved
loop-block-preserved c =
    let l = c.loop-block in
    let (degree, quotients) = next_is l.block c.unwrap-block-in-loop-block.ensures c.next.ensures in
    passes l.invariant l.block.le_k _ c.size-size.ensures c.loop-block-test.true degree quotients

pub returns : goal.returns
returns c =
    let l = c.loop-block in
    let end : l.block.k ≡ c.args.k = omega (arith, l.invariant.within, c.loop-block-test.false) in
    record {
      size = l.invariant.sized ∙ ap (λ v. before (block_size c.args.n) 2 (v - 2)) end ∙ sym (length_before c.args.n (c.args.k - 2));
      degree = l.invariant.degree;
      quotients = end;
    }
