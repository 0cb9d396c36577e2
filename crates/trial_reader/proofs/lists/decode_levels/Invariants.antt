-- `decode_levels` meets its contract: the levels passed are at the front of the slice.
use Rattle.trial_reader.proofs.Passes.{Storing}
use Rattle.trial_reader.proofs.lists.decode_levels.Given as goal

abbrev pub invariant-loop-i : goal.invariant-loop-i
invariant-loop-i l = Storing l.file l.at l.count l.initial.out l.out l.next l.i
