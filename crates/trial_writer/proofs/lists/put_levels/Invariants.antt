-- `put_levels` meets its contract: what is left to put is the encoding of the levels that are left.
use Rattle.leb128.specs.Number.{encode_numbers}
use Rattle.leb128.proofs.Putting.{Putting}
use lib.ListN.{drop}
use Rattle.trial_writer.proofs.lists.put_levels.Given as goal

abbrev pub invariant-loop-level : goal.invariant-loop-level
invariant-loop-level l = Putting l.initial.out l.out l.at l.next (encode_numbers l.levels) (encode_numbers (drop l.level-index l.levels))
