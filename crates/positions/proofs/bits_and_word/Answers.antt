-- `bits_and_word` meets its contract: a turn takes the bits and the letter of the next quotient, and leaves the others.
use mathlib.Core.List.{List, ◌∷◌}
use mathlib.Core.Path.{◌≡◌}
use Prim.Native.Nat.{ℕ, ◌+◌, ◌-◌}
use native.Mathlib.Omega.{arith}
use lib.ListN.{get_or}
use Rattle.positions.specs.Ranking.{backwards}
use Rattle.positions.proofs.Ranking.{among_valid, backwards_step}
use Rattle.positions.proofs.ReadBack.{Read, read_none, read_all, Turn, turn}
use Rattle.positions.proofs.bits_and_word.Goals as goal

pub loop-place-init : goal.loop-place-init
loop-place-init c =
    let (n, small, listed) = c.requires.listed in
    let all : c.args.k + 1 - 1 ≡ c.args.k = omega arith in
    (omega arith, rw all (read_none (among_valid n _ listed) small))

-- a turn: the next quotient, and what is known of it
module _ (c : goal.After-degree_of-d) where
  abbrev chain : List ℕ
  chain = c.args.chain.now

  abbrev k : ℕ
  k = c.args.k

  -- how many are left
  abbrev left : ℕ
  left = c.loop-place.place - 1

  abbrev q : ℕ
  q = get_or chain left 0

  here : Read (backwards chain k) c.loop-place.bits c.loop-place.word
      (q ∷ backwards chain (left - 1))
  here = rw (backwards_step chain left (omega (arith, c.loop-place-test.true))) at c.loop-place.invariant.1

  next : Turn (backwards chain k) c.loop-place.bits c.loop-place.word q
      c.degree_of-d.result (backwards chain (left - 1))
  next =
      let (n, small, listed) = c.requires.listed in
      turn (among_valid n (backwards chain k) listed) small here c.degree_of-d.ensures

pub overflow_sub-bits-in-loop-place : goal.overflow_sub-bits-in-loop-place
overflow_sub-bits-in-loop-place c = (next c).leading

pub overflow_add-bits : goal.overflow_add-bits
overflow_add-bits c = omega (arith, (next c).bits_lt)

pub overflow_mul-word : goal.overflow_mul-word
overflow_mul-word c = omega (arith, (next c).word_lt)

pub overflow_add-word : goal.overflow_add-word
overflow_add-word c = omega (arith, (next c).word_lt)

pub loop-place-preserved : goal.loop-place-preserved
loop-place-preserved c = (omega (arith, c.loop-place-test.true), (next c).next)

pub returns : goal.returns
returns c =
    let a = c.args in
    let (n, small, listed) = c.requires.listed in
    let end : c.loop-place.place - 1 ≡ 0 = omega arith in
    read_all (among_valid n (backwards a.chain.now a.k) listed) (rw end at c.loop-place.invariant.1)
