-- A turn of the loop puts the first of the numbers that are left.
use mathlib.Core.List.{List, ◌++◌}
use Prim.Native.Nat.{ℕ, suc, ◌<◌}
use native.Mathlib.Numerals.{add-one}
use native.Mathlib.Omega.{arith}
use lib.ListN.{length, get_or, drop}
use lib.Seq.{drop-cons}
use Rattle.leb128.specs.Number.{encode_number, encode_numbers}
use Rattle.leb128.proofs.Putting.{Putting, part_put}
use Rattle.saved.proofs.writing.put_eight.Goals as goal

-- In a turn the number at i comes next; the encoding of those behind it follows.
one_more : (first out : List ℕ) (at next : ℕ) (numbers : List ℕ) (i : ℕ) → i < length numbers
    → Putting first out at next (encode_numbers numbers) (encode_numbers (drop i numbers))
    → Putting first out at next (encode_numbers numbers) (encode_number (get_or numbers i 0) ++ encode_numbers (drop (suc i) numbers))
one_more first out at next numbers i there put = rw (drop-cons numbers i 0 there) at put

pub loop-number-preserved : goal.loop-number-preserved
loop-number-preserved c =
    let numbers = c.args.numbers.now in
    let i = c.loop-number.number-index in
    rw (add-one i)
    (part_put (encode_number (get_or numbers i 0))
    (one_more _ _ _ _ numbers i (omega (arith, c.told-numbers, c.loop-number-test.true)) c.loop-number.invariant) c.requires
    c.put_number-next.ensures)
