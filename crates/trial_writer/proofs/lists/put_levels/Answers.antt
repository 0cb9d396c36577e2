-- `put_levels` meets its contract: in a turn a level more is put.
use mathlib.Core.List.{List, ◌++◌}
use Prim.Native.Nat.{ℕ, suc, ◌<◌}
use native.Mathlib.Numerals.{add-one}
use Rattle.leb128.specs.Number.{encode_number, encode_numbers}
use Rattle.leb128.proofs.Putting.{Putting, bytes_put}
use lib.ListN.{length, get_or, drop}
use lib.Seq.{drop-cons}
use Rattle.trial_writer.proofs.lists.put_levels.Goals as goal

-- In a turn the level at i comes next; the encoding of those behind it follows.
one_more : (levels : List ℕ) (i : ℕ) {out₀ out : List ℕ} {at next : ℕ} → i < length levels
    → Putting out₀ out at next (encode_numbers levels) (encode_numbers (drop i levels))
    → Putting out₀ out at next (encode_numbers levels) (encode_number (get_or levels i 0) ++ encode_numbers (drop (suc i) levels))
one_more levels i h p = rw (drop-cons levels i 0 h) at p

pub loop-level-preserved : goal.loop-level-preserved
loop-level-preserved c =
    let levels = c.args.levels.now in
    let i = c.loop-level.level-index in
    let more = one_more levels i c.loop-level-test.true c.loop-level.invariant in
    rw (add-one i) (bytes_put (encode_number (get_or levels i 0)) more c.put_level-next.ensures)
