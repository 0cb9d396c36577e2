-- The three readers meet their contracts: the index tells the first letter, and the next state's reader has one letter less.
use Rattle.pairs.proofs.readers.+readers.Given as goal

abbrev pub decreases-from01 : goal.decreases-from01
decreases-from01 l = l.m

abbrev pub decreases-from10 : goal.decreases-from10
decreases-from10 l = l.m

abbrev pub decreases-from11 : goal.decreases-from11
decreases-from11 l = l.m
