-- `put_eight` meets its contract: what is left to put is the encoding of the numbers from here on.
use lib.ListN.{drop}
use Rattle.leb128.specs.Number.{encode_numbers}
use Rattle.leb128.proofs.Putting.{Putting}
use Rattle.saved.proofs.writing.put_eight.Given as goal

abbrev pub invariant-loop-number : goal.invariant-loop-number
invariant-loop-number l =
    Putting l.initial.out l.out l.at l.next (encode_numbers l.numbers) (encode_numbers (drop l.number-index l.numbers))
