-- `member` meets its contract. The invariant: of those members of `left` that have as many before them as there are turns to come, the one
-- is the member that is asked for.
use Prim.Native.Nat.{ℕ, ◌-◌, ◌^◌, ◌<◌}
use mathlib.Core.Path.{◌≡◌}
use lib.ListN.{length, get_or}
use Rattle.codes.specs.Sets.{members}
use Rattle.triples.proofs.member.Given as goal

pub record Passing (set rank left before : ℕ) : Type 0 where
  pub fits : left < 2 ^ 32
  pub inside : before < length (members left)
  pub is : get_or (members left) before 0 ≡ get_or (members set) rank 0

abbrev pub invariant-loop : goal.invariant-loop
invariant-loop l = Passing l.set l.rank l.left (l.rank - l.counter)
