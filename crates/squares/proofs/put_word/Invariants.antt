-- `put_word` meets its contract. The invariant: the first k bytes are put.
use Rattle.squares.specs.Doubling.{Put}
use Rattle.squares.proofs.put_word.Given as goal

abbrev pub invariant-loop-k : goal.invariant-loop-k
invariant-loop-k l = Put l.initial.pattern l.at l.k l.bytes l.pattern
