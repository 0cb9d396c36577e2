-- `bits_and_word` meets its contract. The invariant: read on from the bits and the word so far, the quotients that are left give those of
-- all.
use Prim.Native.Nat.{◌-◌, ◌≤◌}
use Rattle.positions.specs.Ranking.{backwards}
use Rattle.positions.proofs.ReadBack.{Read}
use Rattle.positions.proofs.bits_and_word.Given as goal

abbrev pub invariant-loop-place : goal.invariant-loop-place
invariant-loop-place l = (1 ≤ l.place) × Read (backwards l.chain l.k) l.bits l.word (backwards l.chain (l.place - 1))
