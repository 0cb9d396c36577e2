-- `levels_width` meets its contract: the sum so far and the encoding of the levels that are left make up the whole.
use mathlib.Core.Path.{◌≡◌}
use Prim.Native.Nat.{◌+◌, ◌*◌, ◌≤◌}
use Rattle.leb128.specs.Number.{encode_numbers}
use lib.ListN.{length, drop}
use Rattle.trial_writer.proofs.lists.levels_width.Given as goal

abbrev pub invariant-loop-level : goal.invariant-loop-level
invariant-loop-level l =
    (l.total ≤ 10 * l.level-index)
    × (l.total + length (encode_numbers (drop l.level-index l.levels)) ≡ length (encode_numbers l.levels))
