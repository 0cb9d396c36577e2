-- `composition_rank` meets its contract. The invariant: the rank so far and that of the degrees that are left make the rank of all, and
-- count is the number of compositions that the gaps left allow.
use mathlib.Core.List.{List, map}
use Prim.Native.Nat.{ℕ, ◌<◌}
use Rattle.poly.specs.Code.{degree}
use Rattle.positions.specs.Ranking.{backwards}
use Rattle.positions.proofs.ReadBack.{Walked}
use Rattle.positions.proofs.composition_rank.Given as goal

-- the degrees of the quotients in the chain's entries k to 1
abbrev pub degrees : List ℕ → ℕ → List ℕ
degrees chain k = map (degree 2) (backwards chain k)

abbrev pub invariant-loop-commas : goal.invariant-loop-commas
invariant-loop-commas l =
    (l.commas < l.k) × Walked l.fn.block.n (degrees l.chain l.k) l.rank l.left l.count l.commas l.d (degrees l.chain l.commas)

abbrev pub decreases-loop-commas : goal.decreases-loop-commas
decreases-loop-commas l = l.left
