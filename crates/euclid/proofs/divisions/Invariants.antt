-- `divisions` meets its contract. The invariant: the chain of dividend and divisor, written at the count, makes the whole chain. Each
-- division takes one quotient off its front, and the remainder, the next divisor, is smaller than the divisor.
use mathlib.Core.List.{List}
use mathlib.Core.Path.{◌≡◌}
use Prim.Native.Nat.{ℕ, ◌+◌}
use lib.ListN.{length}
use lib.Seq.{sets}
use Rattle.euclid.specs.Chain.{Chain, chain}
use Rattle.euclid.proofs.divisions.Given as goal

-- `rest` is still to be written, at `count`
pub record State (whole : Chain) (out₀ out : List ℕ) (count : ℕ) (rest : Chain) : Type 0 where
  pub written : sets out count rest.quotients ≡ sets out₀ 0 whole.quotients
  pub counted : count + length rest.quotients ≡ length whole.quotients
  pub divisor : rest.divisor ≡ whole.divisor
  pub size : length out ≡ length out₀

abbrev pub invariant-loop-divisor : goal.invariant-loop-divisor
invariant-loop-divisor l = State (chain 2 l.f l.g) l.initial.out l.out l.count (chain 2 l.dividend l.divisor)

abbrev pub decreases-loop-divisor : goal.decreases-loop-divisor
decreases-loop-divisor l = l.divisor
