-- The first pair of each list from degree 2 to 31, computed by the pass over the gaps that gives the pair at a position.
use Prim.Native.Nat.{ℕ, ◌+◌, ◌-◌, ◌^◌, ◌≤◌, ◌<◌}
use native.Mathlib.Nat.{le_refl, pow-le-pow_right}
use native.Mathlib.Omega.{arith}
use mathlib.Core.Path.{◌≡◌, refl, sym, ap, subst, ◌∙◌}
use mathlib.Core.List.{List, map}
use lib.Dec.{lit<}
use lib.ListN.{get_or}
use Rattle.loops.specs.Loops.{numbers}
use Rattle.loops.proofs.Loops.{listed_numbers, listed_map}
use Rattle.poly.specs.Code.{add, scale}
use Rattle.poly.specs.Limits.{list_length}
use Rattle.euclid.specs.Chain.{Pair}
use Rattle.pairs.specs.Pairs.{start}
use Rattle.pairs.proofs.Blocks.{block_size}
use Rattle.pairs.proofs.Pairs.{length_pairs}
use Rattle.pairs.proofs.PairWalk.{append, shift, walk_in, pair_in, pair_at, pair_at_walk}
use Rattle.walk.specs.Walks.{next_pair}
use Rattle.walk.proofs.Keeping.{next_below}

abbrev pub first : ℕ → Pair
first n = record { f = 2 ^ n + 3; g = 2 ^ n + 1 }

computed : map (λ n. pair_at n 0) (numbers 2 30) ≡ map first (numbers 2 30)
unfolding pair_at pair_in walk_in append shift add scale block_size
computed = refl

-- entry i of either list
at : (pair : ℕ → Pair) (i : ℕ) → i < 30 → get_or (map pair (numbers 2 30)) i start ≡ pair (2 + i)
at pair i h = (listed_map pair start (listed_numbers 2 30)).stands i h

-- from degree 2 on a list has a first pair
some : (n : ℕ) → 2 ≤ n → 0 < list_length n
some n low = let four : 4 ^ 1 ≤ 4 ^ (n - 1) = pow-le-pow_right (lit< tt) {i = 1} {j = n - 1} (omega arith) in omega arith

-- below it has none
pub nothing : (n : ℕ) → n < 2 → list_length n ≤ 0
nothing n h = let e : n - 1 ≡ 0 = omega arith in rw e (le_refl 0)

pub first_pair : (n : ℕ) → 2 ≤ n → n ≤ 31 → next_pair n 0 ≡ first n
first_pair n low high =
    let e : 2 + (n - 2) ≡ n = omega arith in
    next_below n 0 (some n low) ∙ pair_at_walk n 0 start (rw (length_pairs n) (some n low))
    ∙ subst (λ (k : ℕ). pair_at k 0 ≡ first k) e
    (sym (at (λ (k : ℕ). pair_at k 0) (n - 2) (omega arith)) ∙ ap (λ (l : List Pair). get_or l (n - 2) start) computed
    ∙ at first (n - 2) (omega arith))
