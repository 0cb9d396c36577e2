-- `fill_block` meets its contract: a block is its groups one after the other, of which the first may be begun in its middle.
use mathlib.Core.List.{List, map}
use mathlib.Core.Path.{◌≡◌, refl, ap, ◌∙◌}
use Prim.Native.Nat.{ℕ, ◌+◌, ◌-◌, ◌*◌, ◌/◌, ◌%◌, ◌^◌, ◌≤◌, ◌<◌}
use native.Mathlib.Nat.{mod-lt}
use native.Mathlib.Omega.{arith}
use lib.ListN.{length}
use lib.Pow.{shl_exact}
use Rattle.pairs.specs.declared.block.Block.{Block}
use Rattle.pairs.specs.Words.{words}
use Rattle.pairs.specs.Sequences.{compositions, block}
use Rattle.pairs.specs.Pairs.{build}
use Rattle.listing.specs.Filling.{Written, onward, HeadsOf}
use Rattle.pairs.proofs.Compositions.{listed_compositions}
use Rattle.pairs.proofs.Sizes.{parts_lt}
use Rattle.listing.proofs.Written as written
use Rattle.listing.proofs.Onward.{some_words}
use Rattle.listing.proofs.Groups.{made, length_made, block_made, from_group, next_group, no_group, onward_made, first_ready}
use Rattle.listing.proofs.Front.{written_front, ready_front}
use Rattle.listing.proofs.fill_block.Invariants.{Going}
use Rattle.listing.proofs.fill_block.Goals as goal

module _ {n k groups skip done : ℕ} {old out : List ℕ} {group first filled : ℕ}
    (going : Going n k groups skip done old out group first filled) where
  -- no room, or no group left
  stops_full : length out / 2 ≤ filled → Written (map build (block n k)) skip old done out filled
  stops_full h = going.completes out filled (written.full h)

  stops_done : groups ≤ group → Written (map build (block n k)) skip old done out filled
  stops_done h = going.completes out filled (rw (no_group n k groups group h) (written.skipped (omega arith)))

  -- one group more
  turn : {heads new : List ℕ} {all : ℕ} → group < groups → HeadsOf n k group heads → Written (onward heads k 1 0) first out filled new all
      → Going n k groups skip done old new (group + 1) 0 all
  turn {heads} {new} {all} l h w =
      let v : Written (made n k group) first out filled new all = rw (onward_made h) at w in
      record {
        long = written.same_length w ∙ going.long;
        few = omega arith;
        completes = λ new' all' rest.
            let none : first - length (made n k group) ≡ 0 = omega (arith, length_made n k group, going.few) in
            going.completes new' all' (rw (next_group n k groups group l) (written.joined v (rw none rest)));
      }

-- before the first
starts : (n k groups W skip : ℕ) {done : ℕ} {old : List ℕ} → groups ≡ length (compositions n k) * 2 ^ (n - k) → W ≡ length (words k)
    → 0 < W → Going n k groups skip done old old (skip / W) (skip % W) done
starts n k groups W skip all is pos = record {
  long = refl;
  few = omega (arith, mod-lt skip pos);
  completes = λ new end w. rw (block_made n k) (from_group n k _ W skip is (rw all at w));
}

-- how many groups a block has
module _ (b : Block) where
  compositions_lt : b.compositions < 2 ^ 31
  compositions_lt = rw (b.compositions_value, (listed_compositions b.n b.k).long) (parts_lt b.n b.k (omega (arith, b.n_bound)))

  shifted : b.compositions * 2 ^ (b.n - b.k) % 2 ^ 64 ≡ b.compositions * 2 ^ (b.n - b.k)
  shifted = shl_exact 31 (b.n - b.k) 64 compositions_lt (omega (arith, b.n_bound))

  all_groups : b.compositions * 2 ^ (b.n - b.k) % 2 ^ 64 ≡ length (compositions b.n b.k) * 2 ^ (b.n - b.k)
  all_groups = shifted ∙ ap (λ v. v * 2 ^ (b.n - b.k)) b.compositions_value

  positive : 0 < b.words
  positive = rw b.words_value (some_words b.k b.le_k)

pub nonzero_rem-first : goal.nonzero_rem-first
nonzero_rem-first c = positive c.args.block

pub overflow_step-group : goal.overflow_step-group
overflow_step-group c = positive c.args.block

pub loop-group-init : goal.loop-group-init
loop-group-init c =
    let b = c.args.block in starts b.n b.k _ b.words c.args.skip (all_groups b) b.words_value (positive b)

pub shape_of-out-then-out-filled : goal.shape_of-out-then-out-filled
shape_of-out-then-out-filled c = c.loop-group.invariant.long

pub returns-then-out-filled : goal.returns-then-out-filled
returns-then-out-filled c = stops_full c.loop-group.invariant c.if-out-filled.true

pub heads_of-heads-requires : goal.heads_of-heads-requires
heads_of-heads-requires c = rw (shifted c.args.block) at c.loop-group-test.true

pub fill-filled-requires : goal.fill-filled-requires
fill-filled-requires c =
    let b = c.args.block in
    ready_front c.heads_of-heads.result b.k (omega (arith, b.k_le_n, b.n_bound)) 1 0
    (first_ready c.heads_of-heads.ensures (rw (all_groups b) at c.loop-group-test.true) b.le_k b.k_le_n b.n_bound)

pub loop-group-preserved : goal.loop-group-preserved
loop-group-preserved c =
    let b = c.args.block in
    turn c.loop-group.invariant c.loop-group-test.true c.heads_of-heads.ensures
    (written_front c.heads_of-heads.result b.k (omega (arith, b.k_le_n, b.n_bound)) 1 0 c.fill-filled.ensures)

pub shape_of-out : goal.shape_of-out
shape_of-out c = c.loop-group.invariant.long

pub returns : goal.returns
returns c = stops_done c.loop-group.invariant c.loop-group-test.false
