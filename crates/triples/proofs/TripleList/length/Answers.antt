-- `length` meets its contract: its cases are the numbers that were computed.
use Prim.Native.Nat.{ℕ}
use mathlib.Core.List.{List}
use mathlib.Core.Path.{◌≡◌, sym, ap, ◌∙◌}
use native.Mathlib.Omega.{arith}
use lib.ListN.{length, get_or}
use Rattle.triples.specs.Triples.{triples}
use Rattle.triples.proofs.Totals.{lengths_computed}
use Rattle.triples.proofs.TripleList.length.Goals as goal

-- the number at degree m, if n is m
of_degree : {n m number : ℕ} → number ≡ length (triples m) → n ≡ m → number ≡ length (triples n)
of_degree is e = is ∙ ap (λ (m : ℕ). length (triples m)) (sym e)

pub returns-in-2 : goal.returns-in-2
returns-in-2 c = of_degree (ap (λ (l : List ℕ). get_or l 0 0) (sym lengths_computed)) c.in-2.is

pub returns-in-3 : goal.returns-in-3
returns-in-3 c = of_degree (ap (λ (l : List ℕ). get_or l 1 0) (sym lengths_computed)) c.in-3.is

pub returns-in-4 : goal.returns-in-4
returns-in-4 c = of_degree (ap (λ (l : List ℕ). get_or l 2 0) (sym lengths_computed)) c.in-4.is

pub returns-in-5 : goal.returns-in-5
returns-in-5 c = of_degree (ap (λ (l : List ℕ). get_or l 3 0) (sym lengths_computed)) c.in-5.is

pub returns-in_default : goal.returns-in_default
returns-in_default c =
    let six : c.args.self.n ≡ 6 = omega arith in
    of_degree {m = 6} (ap (λ (l : List ℕ). get_or l 4 0) (sym lengths_computed)) six
