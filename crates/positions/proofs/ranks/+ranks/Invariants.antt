-- The three word readers meet their contracts. The letters left are the measure: each reader hands the rest to the reader of the next
-- state, and letter 1 adds the words that begin with letter 0.
use Rattle.positions.proofs.ranks.+ranks.Given as goal

abbrev pub decreases-rank01 : goal.decreases-rank01
decreases-rank01 l = l.m

abbrev pub decreases-rank10 : goal.decreases-rank10
decreases-rank10 l = l.m

abbrev pub decreases-rank11 : goal.decreases-rank11
decreases-rank11 l = l.m
