-- `eight_width` meets its contract: the sum so far and the encoding of the numbers from here on make up the whole.
use mathlib.Core.Path.{◌≡◌}
use Prim.Native.Nat.{◌+◌, ◌*◌, ◌≤◌}
use lib.ListN.{length, drop}
use Rattle.leb128.specs.Number.{encode_numbers}
use Rattle.saved.proofs.writing.eight_width.Given as goal

abbrev pub invariant-loop-number : goal.invariant-loop-number
invariant-loop-number l =
    (l.total ≤ 10 * l.number-index)
    × (l.total + length (encode_numbers (drop l.number-index l.numbers)) ≡ length (encode_numbers l.numbers))
