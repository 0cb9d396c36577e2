-- `divisions` meets its contract: a division takes one quotient off the front of the chain that is still to be written.
use mathlib.Core.List.{List}
use mathlib.Core.Path.{sym, ap, ◌∙◌}
use Prim.Native.Nat.{ℕ, ◌+◌, ◌<◌}
use native.Mathlib.Nat.{add-zero}
use native.Mathlib.Numerals.{add-one}
use native.Mathlib.Omega.{arith}
use lib.ListN.{length, set, length-set}
use Rattle.euclid.specs.Chain.{Chain, chain}
use Rattle.euclid.proofs.Chains.{link, chain_zero}
use Rattle.euclid.proofs.Steps.{divided_chain, divided_less}
use Rattle.euclid.proofs.divisions.Invariants.{State}
use Rattle.euclid.proofs.divisions.Goals as goal

-- one quotient of it is written
turn : {whole rest : Chain} {out₀ out : List ℕ} {count : ℕ} (q : ℕ) → State whole out₀ out count (link q rest)
    → State whole out₀ (set out count q) (count + 1) rest
turn {rest = rest} {out = out} {count = count} q s = record {
  written = rw (add-one count) s.written;
  counted = omega (arith, s.counted);
  divisor = s.divisor;
  size = length-set out count q ∙ s.size;
}

-- after a division, which is the front of the chain
module _ (c : goal.After-divide-d) where
  here : State (chain 2 c.args.f c.args.g)
      c.args.out.now c.loop-divisor.out c.loop-divisor.count
      (link c.divide-d.result.quotient (chain 2 c.loop-divisor.divisor c.divide-d.result.remainder))
  here =
      let l = c.loop-divisor in
      rw (divided_chain l.dividend l.divisor c.loop-divisor-test.true c.divide-d.ensures) at l.invariant

  -- there is room for its quotient
  room : c.loop-divisor.count < length c.loop-divisor.out
  room = omega (arith, here.size, here.counted, c.requires)

pub bounds-out-count : goal.bounds-out-count
bounds-out-count c = room c

pub loop-divisor-smaller : goal.loop-divisor-smaller
loop-divisor-smaller c =
    let l = c.loop-divisor in
    divided_less l.dividend l.divisor c.loop-divisor-test.true c.divide-d.ensures

pub loop-divisor-preserved : goal.loop-divisor-preserved
loop-divisor-preserved c = turn c.divide-d.result.quotient (here c)

pub returns : goal.returns
returns c =
    let l = c.loop-divisor in
    let s = rw (ap (chain 2 l.dividend) c.loop-divisor-test.false ∙ chain_zero 2 l.dividend) at l.invariant in
    record {
      counted = sym (add-zero l.count) ∙ s.counted;
      divisor = s.divisor;
      written = s.written;
    }
