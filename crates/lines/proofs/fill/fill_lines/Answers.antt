-- `fill_lines` meets its contract: a whole block more is put, or the block is the last, since fewer lines than it has positions are put.
use mathlib.Core.List.{List}
use Prim.Native.Nat.{ℕ, ◌+◌, ◌-◌, ◌≤◌, ◌<◌}
use native.Mathlib.Nat.{sub-zero, sub_self, add-sub_of_le}
use native.Mathlib.Omega.{arith}
use lib.ListN.{length, take, drop, length-take, length-drop}
use lib.Seq.{drop-drop}
use Rattle.lines.specs.Filling.{entry_lines, filled, Fills}
use Rattle.lines.specs.Inner.{Adds, block_lines}
use Rattle.lines.proofs.Lines.{lined}
use Rattle.lines.proofs.Fitting.{fitting_le, fitting_few, Begun, begun, begun_more, begun_last}
use Rattle.lines.proofs.fill.fill_lines.Goals as goal

module _ (n position : ℕ) {out₀ : List ℕ} {next : ℕ} {out : List ℕ} {used : ℕ} (from : position ≤ next)
    (b : Begun (drop position (entry_lines n)) position out₀ 0 (next - position) out used) {used' next' : ℕ} {out' : List ℕ}
    (a : Adds (block_lines n next) next out used used' next' out') where
  -- The block, from the first position on.
  block : Adds (take 256 (drop (next - position) (drop position (entry_lines n)))) (position + (next - position)) out used used' next' out'
  block = rw (drop-drop (next - position) position (entry_lines n), add-sub_of_le from) a

  onward : next ≤ next'
  onward = omega (arith, a.stop)

  more : Begun (drop position (entry_lines n)) position out₀ 0 (next' - position) out' used'
  more = begun_more 256 b block (next' - position) (omega (arith, a.stop))

  less : 256 ≤ next' - next → length (entry_lines n) - next' < length (entry_lines n) - next
  less many =
      omega (
        arith,
        a.stop,
        fitting_few (length out - used) (take 256 (drop next (entry_lines n))),
        length-take 256 (drop next (entry_lines n)),
        length-drop next (entry_lines n),
      )

  last : next' - next < 256 → Fills n position out₀ used' next' out'
  unfolding filled
  last few =
      let all : Adds (drop position (entry_lines n)) position out₀ 0 used' next' out' = begun_last 256 b block (omega arith) in
      record {
        bytes = lined (rw sub-zero at all.bytes) (omega (arith, fitting_le (length out₀) (drop position (entry_lines n))));
        stop = rw sub-zero at all.stop;
      }

pub loop-filling-init : goal.loop-filling-init
loop-filling-init c =
    let position = c.args.position in
    (omega arith, rw sub_self (begun {lines = drop position (entry_lines c.args.n)} (omega arith)))

pub add_block-block-requires : goal.add_block-block-requires
add_block-block-requires c = c.loop-filling.invariant.1.room

pub overflow_sub-block : goal.overflow_sub-block
overflow_sub-block c = omega (arith, c.add_block-block.ensures.stop)

pub shape_of-out-then-block-filling-lt256 : goal.shape_of-out-then-block-filling-lt256
shape_of-out-then-block-filling-lt256 c =
    let a = c.args in
    (more a.n a.position c.loop-filling.invariant.0 c.loop-filling.invariant.1 c.add_block-block.ensures).kept

pub returns-then-block-filling-lt256 : goal.returns-then-block-filling-lt256
returns-then-block-filling-lt256 c =
    let a = c.args in
    last a.n a.position c.loop-filling.invariant.0 c.loop-filling.invariant.1 c.add_block-block.ensures c.if-block-filling-lt256.true

pub loop-filling-smaller : goal.loop-filling-smaller
loop-filling-smaller c =
    let a = c.args in
    less a.n a.position c.loop-filling.invariant.0 c.loop-filling.invariant.1 c.add_block-block.ensures c.if-block-filling-lt256.false

pub loop-filling-preserved : goal.loop-filling-preserved
loop-filling-preserved c =
    let a = c.args in
    let b = c.add_block-block.ensures in (
      omega (arith, onward a.n a.position c.loop-filling.invariant.0 c.loop-filling.invariant.1 b),
      more a.n a.position c.loop-filling.invariant.0 c.loop-filling.invariant.1 b,
    )
