-- `pair_in` meets its contract: each gap is a comma or a plus, and the share of the compositions with a comma tells which.
use mathlib.Core.Path.{◌≡◌, ◌∙◌}
use Prim.Native.Nat.{ℕ, ◌+◌, ◌-◌, ◌*◌, ◌/◌, ◌^◌, ◌≤◌, ◌<◌}
use native.Mathlib.Nat.{mod-lt, mod-mod}
use native.Mathlib.Omega.{arith}
use lib.ListN.{length}
use Rattle.pairs.specs.declared.block.Block.{Block}
use Rattle.pairs.specs.Words.{words, tabled}
use Rattle.pairs.proofs.Words.{tabled_is}
use Rattle.euclid.specs.Chain.{Pair}
use Rattle.pairs.proofs.PairWalk.{walk_in}
use Rattle.pairs.proofs.Gaps.{comma_left, plus_left, share_fits, share_computed, share_le}
use Rattle.pairs.proofs.Turns.{
  Between,
  first_turn,
  comma_turn,
  plus_turn,
  last_turn,
  commas_lt,
  some_word,
  answer,
}
use Rattle.pairs.proofs.pair.pair_in.Goals as goal

few : (b : Block) → b.k ≤ 31
few b = omega (arith, b.k_le_n, b.n_bound)

counted : {k kept : ℕ} → kept ≡ tabled k → k ≤ 31 → kept ≡ length (words k)
counted {k = k} e few = e ∙ tabled_is k (omega arith)

-- before the first turn
begins : (c : goal.After-from10-word)
    → Between c.args.block.n c.from10-word.result (c.args.place / c.word_count-words.result)
    (walk_in c.args.block.n c.args.block.k c.args.place)
    (c.args.place / c.word_count-words.result / 2 ^ (c.args.block.n - c.args.block.k))
    c.args.block.compositions (c.args.block.n - 1) (c.args.block.k - 1) 1 0 1
begins c =
    let b = c.args.block in
    first_turn b.n b.k c.args.place b.le_k b.k_le_n c.requires b.compositions c.word_count-words.result c.from10-word.result b.n_bound
    b.compositions_value (counted c.word_count-words.ensures (few b)) c.from10-word.ensures

pub nonzero_rem-place : goal.nonzero_rem-place
nonzero_rem-place c =
    let b = c.args.block in
    some_word b.n b.k c.args.place b.le_k b.k_le_n c.requires c.word_count-words.result (counted c.word_count-words.ensures (few b))

pub from10-word-requires : goal.from10-word-requires
from10-word-requires c =
    let b = c.args.block in
    let words = counted c.word_count-words.ensures (few b) in
    record {
      m_bound = few b;
      count_value = words;
      i_lt_count = mod-lt _ (some_word b.n b.k c.args.place b.le_k b.k_le_n c.requires c.word_count-words.result words);
    }

pub nonzero_div-bits : goal.nonzero_div-bits
nonzero_div-bits c =
    let b = c.args.block in
    some_word b.n b.k c.args.place b.le_k b.k_le_n c.requires c.word_count-words.result (counted c.word_count-words.ensures (few b))

pub overflow_cast-index-2 : goal.overflow_cast-index-2
overflow_cast-index-2 c = record { fits = omega (arith, (begins c).share.inside, c.args.block.compositions_value) }

pub loop-gaps-init : goal.loop-gaps-init
loop-gaps-init c = begins c

pub overflow_mul-left : goal.overflow_mul-left
overflow_mul-left c =
    let b = c.loop-gaps.invariant in record { fits = share_fits b.share (omega (arith, b.few, b.gap)) }

-- the share, as it is computed
shared : {n word bits : ℕ} {t : Pair} {index left gaps commas r s product x : ℕ} → Between n word bits t index left gaps commas r s product
    → 0 < gaps → x ≡ left * commas * (2 ^ 32 / (gaps - 1 + 1) + 1) / 2 ^ 32 → x ≡ left * commas / gaps
shared {gaps = gaps} b pos e =
    let same : gaps - 1 + 1 ≡ gaps = omega arith in rw same at e ∙ share_computed _ _ b.share pos (omega (arith, b.few, b.gap))

pub overflow_shr-word : goal.overflow_shr-word
overflow_shr-word c = omega (arith, commas_lt c.loop-gaps.invariant)

pub overflow_sub-commas-then-index-with_comma : goal.overflow_sub-commas-then-index-with_comma
overflow_sub-commas-then-index-with_comma c =
    let l = c.loop-gaps in
    comma_left _ _ l.invariant.share c.loop-gaps-test.true
    (rw (shared c.loop-gaps.invariant c.loop-gaps-test.true c.share-with_comma.ensures) at c.if-index-with_comma.true)

pub loop-gaps-preserved-then-index-with_comma : goal.loop-gaps-preserved-then-index-with_comma
loop-gaps-preserved-then-index-with_comma c =
    rw ((shared c.loop-gaps.invariant c.loop-gaps-test.true c.share-with_comma.ensures), c.scaled.ensures)
    (comma_turn _ _ c.loop-gaps.invariant c.loop-gaps-test.true
    (rw (shared c.loop-gaps.invariant c.loop-gaps-test.true c.share-with_comma.ensures) at c.if-index-with_comma.true))

pub overflow_sub-gaps : goal.overflow_sub-gaps
overflow_sub-gaps c =
    plus_left _ _ c.loop-gaps.invariant.share c.loop-gaps-test.true
    (rw (shared c.loop-gaps.invariant c.loop-gaps-test.true c.share-with_comma.ensures) at c.if-index-with_comma.false)

pub overflow_cast-gaps : goal.overflow_cast-gaps
overflow_cast-gaps c = let b = c.loop-gaps.invariant in record { fits = omega (arith, b.gap, b.few) }

pub overflow_shr-bits : goal.overflow_shr-bits
overflow_shr-bits c = let b = c.loop-gaps.invariant in omega (arith, b.gap, b.few)

pub overflow_sub-left : goal.overflow_sub-left
overflow_sub-left c =
    rw (shared c.loop-gaps.invariant c.loop-gaps-test.true c.share-with_comma.ensures)
    (share_le _ _ c.loop-gaps.invariant.share c.loop-gaps-test.true)

pub loop-gaps-preserved : goal.loop-gaps-preserved
loop-gaps-preserved c =
    rw ((shared c.loop-gaps.invariant c.loop-gaps-test.true c.share-with_comma.ensures), c.scaled-else-index-with_comma.ensures, mod-mod)
    (plus_turn _ _ c.loop-gaps.invariant c.loop-gaps-test.true
    (rw (shared c.loop-gaps.invariant c.loop-gaps-test.true c.share-with_comma.ensures) at c.if-index-with_comma.false))

pub returns : goal.returns
returns c =
    let l = c.loop-gaps in
    let b = c.args.block in
    rw c.scaled-2.ensures
    (answer b.n b.k c.args.place b.le_k b.k_le_n c.requires _ l.r (last_turn _ _ l.invariant c.loop-gaps-test.false))
