-- `add_block` meets its contract: the block's codes give the lines of its positions, and where there is no block there are no lines.
use mathlib.Core.List.{List, [], ◌∷◌}
use mathlib.Core.Path.{◌≡◌, refl, sym}
use Prim.Native.Nat.{ℕ, ◌*◌, ◌/◌, ◌^◌, ◌≤◌, ◌<◌}
use native.Mathlib.Omega.{arith}
use lib.ListN.{length, take, replicate, length-take}
use Rattle.reply.specs.Reply.{served, refused}
use Rattle.poly.proofs.Ranges.{within, list_length_lt}
use Rattle.listing.specs.Replies.{from_reply, from_content}
use Rattle.listing.proofs.From.{from_many}
use Rattle.lines.specs.Inner.{Adds, block_lines, lines_from}
use Rattle.lines.proofs.Block.{block_is, lines_front, no_block}
use Rattle.lines.proofs.Fitting.{adds_none}
use Rattle.lines.proofs.fill.add_block.Goals as goal

module _ (n position many : ℕ) (e : served (many ∷ []) ≡ from_reply n position 512) where
  -- The positions of a block can be counted.
  small : (position < 2 ^ 63) × (many ≤ 256)
  small =
      let (on, below, is) = from_many n position (replicate 512 0) many (sym e) in
      (omega (arith, list_length_lt n (within 1 31 on).1), omega arith)

  whole : {codes out : List ℕ} {used used' next : ℕ} {out' : List ℕ} → codes ≡ from_content n position (replicate 512 0)
      → length codes ≡ 512
      → Adds (lines_from position (length (take (2 * many) codes) / 2) (take (2 * many) codes)) position out used used' next out'
      → Adds (block_lines n position) position out used used' next out'
  whole {codes} is long a =
      let room : 2 * many ≤ length codes = omega (arith, small.1) in
      rw (← block_is n position (replicate 512 0) many refl (sym e), ← is) (rw (lines_front position many codes room) at a)

none : (n position : ℕ) {k : ℕ} {out : List ℕ} {used : ℕ} → refused k ≡ from_reply n position 512
    → Adds (block_lines n position) position out used used position out
none n position e = adds_none (rw (no_block n position e))

pub overflow_mul-codes : goal.overflow_mul-codes
overflow_mul-codes c =
    let few = (small c.args.n c.args.before.next _ c.in-Ok.ensures.reply).1 in
    record { fits = omega (arith, few) }

pub slice_bounds-codes-end : goal.slice_bounds-codes-end
slice_bounds-codes-end c =
    let few = (small c.args.n c.args.before.next _ c.in-Ok.ensures.reply).1 in
    omega (arith, few)

pub slice_bounds-add_lines-end : goal.slice_bounds-add_lines-end
slice_bounds-add_lines-end c =
    let few = (small c.args.n c.args.before.next _ c.in-Ok.ensures.reply).1 in
    omega (arith, few, length-take (2 * c.in-Ok.many) c.pairs_from.new.out)

pub add_lines-requires : goal.add_lines-requires
add_lines-requires c =
    let (low, few) = small c.args.n c.args.before.next _ c.in-Ok.ensures.reply in
    (low, omega (arith, few, length-take (2 * c.in-Ok.many) c.pairs_from.new.out), c.requires)

pub returns-in-Err : goal.returns-in-Err
returns-in-Err c = none c.args.n c.args.before.next c.in-Err.ensures.reply

pub returns-in-Ok : goal.returns-in-Ok
returns-in-Ok c =
    whole c.args.n c.args.before.next _ c.in-Ok.ensures.reply c.in-Ok.ensures.content (omega arith) c.add_lines.ensures
