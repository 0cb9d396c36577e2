-- `heads_of` meets its contract: each gap is a comma or a plus, and the share of the compositions with a comma tells which.
use mathlib.Core.Path.{◌≡◌, refl, ◌∙◌}
use mathlib.Core.List.{List}
use Prim.Native.Nat.{ℕ, ◌+◌, ◌-◌, ◌*◌, ◌/◌, ◌^◌, ◌<◌}
use native.Mathlib.Omega.{arith}
use lib.ListN.{replicate}
use Rattle.pairs.specs.declared.block.Block.{Block}
use Rattle.pairs.proofs.Gaps.{share_fits, share_computed, comma_left, plus_left, share_le}
use Rattle.listing.proofs.Heads.{Between, begins, commas_lt, head_fits, comma_turn, plus_turn, finished}
use Rattle.listing.proofs.heads_of.Goals as goal

first : (b : Block) (i : ℕ) → i < b.compositions * 2 ^ (b.n - b.k)
    → Between b.n b.k i (replicate 32 0) (i / 2 ^ (b.n - b.k)) b.compositions (b.n - 1) (b.k - 1) 1
first b i h = begins b.n b.k b.compositions i (replicate 32 0) b.le_k b.k_le_n b.n_bound b.compositions_value h refl

pub overflow_cast-index-2 : goal.overflow_cast-index-2
overflow_cast-index-2 c =
    let begun = first c.args.block c.args.group c.requires in
    record { fits = omega (arith, begun.choices.inside, c.args.block.compositions_value) }

pub loop-gaps-init : goal.loop-gaps-init
loop-gaps-init c = first c.args.block c.args.group c.requires

pub overflow_mul-left : goal.overflow_mul-left
overflow_mul-left c = let b = c.loop-gaps.invariant in record { fits = share_fits b.choices (omega (arith, b.few, b.gap)) }

-- the share, as it is computed
shared : {n k group : ℕ} {heads : List ℕ} {index left gaps commas head x : ℕ}
    → Between n k group heads index left gaps commas head → 0 < gaps → x ≡ left * commas * (2 ^ 32 / (gaps - 1 + 1) + 1) / 2 ^ 32
    → x ≡ left * commas / gaps
shared {gaps = gaps} b pos e =
    let same : gaps - 1 + 1 ≡ gaps = omega arith in rw same at e ∙ share_computed _ _ b.choices pos (omega (arith, b.few, b.gap))

pub overflow_cast-heads : goal.overflow_cast-heads
overflow_cast-heads c = omega (arith, commas_lt c.loop-gaps.invariant)

pub offset_bounds-heads-commas : goal.offset_bounds-heads-commas
offset_bounds-heads-commas c = omega (arith, commas_lt c.loop-gaps.invariant)

pub bounds-heads-commas : goal.bounds-heads-commas
bounds-heads-commas c = omega (arith, commas_lt c.loop-gaps.invariant)

pub overflow_sub-commas-then-index-with_comma : goal.overflow_sub-commas-then-index-with_comma
overflow_sub-commas-then-index-with_comma c = comma_left _ _ c.loop-gaps.invariant.choices c.loop-gaps-test.true
    (rw (shared c.loop-gaps.invariant c.loop-gaps-test.true c.share-with_comma.ensures) at c.if-index-with_comma.true)

pub loop-gaps-preserved-then-index-with_comma : goal.loop-gaps-preserved-then-index-with_comma
loop-gaps-preserved-then-index-with_comma c =
    rw (shared c.loop-gaps.invariant c.loop-gaps-test.true c.share-with_comma.ensures)
    (comma_turn _ _ c.loop-gaps.invariant c.loop-gaps-test.true
    (rw (shared c.loop-gaps.invariant c.loop-gaps-test.true c.share-with_comma.ensures) at c.if-index-with_comma.true))

pub overflow_sub-head : goal.overflow_sub-head
overflow_sub-head c = plus_left _ _ c.loop-gaps.invariant.choices c.loop-gaps-test.true
    (rw (shared c.loop-gaps.invariant c.loop-gaps-test.true c.share-with_comma.ensures) at c.if-index-with_comma.false)

pub overflow_cast-head : goal.overflow_cast-head
overflow_cast-head c = let b = c.loop-gaps.invariant in record { fits = omega (arith, b.gap, b.few) }

pub overflow_shr-head : goal.overflow_shr-head
overflow_shr-head c = let b = c.loop-gaps.invariant in omega (arith, b.gap, b.few)

pub overflow_add-head : goal.overflow_add-head
overflow_add-head c = record {
  fits = head_fits _ _ c.loop-gaps.invariant c.loop-gaps-test.true _ (omega arith);
}

pub overflow_sub-left : goal.overflow_sub-left
overflow_sub-left c =
    rw (shared c.loop-gaps.invariant c.loop-gaps-test.true c.share-with_comma.ensures)
    (share_le _ _ c.loop-gaps.invariant.choices c.loop-gaps-test.true)

pub loop-gaps-preserved : goal.loop-gaps-preserved
loop-gaps-preserved c =
    rw (shared c.loop-gaps.invariant c.loop-gaps-test.true c.share-with_comma.ensures)
    (plus_turn _ _ c.loop-gaps.invariant c.loop-gaps-test.true
    (rw (shared c.loop-gaps.invariant c.loop-gaps-test.true c.share-with_comma.ensures) at c.if-index-with_comma.false))

pub returns : goal.returns
returns c = finished _ _ c.loop-gaps.invariant c.loop-gaps-test.false
