-- The longest chains of a degree's list (document 02, request k).
use Rattle.std.specs.Prelude.{ℕ, ◌+◌, List, eqb, length}
use Rattle.loops.specs.Loops.{numbers, filter}
use Rattle.euclid.specs.Chain.{chain}
use Rattle.pairs.specs.Pairs.{pairs, entry}

-- How many quotients the chain of the pair at position j of the list of degree n has.
unfoldable pub quotients_at : ℕ → ℕ → ℕ
quotients_at n j = length (chain 2 (entry n j).f (entry n j).g).quotients

-- The positions of the list whose pairs reach n + 1 quotients, rising.
unfoldable pub longest_at : ℕ → List ℕ
longest_at n = filter (λ j. eqb (quotients_at n j) (n + 1)) (numbers 0 (length (pairs n)))
