-- What the functions behind `pairs_from` say to each other. This is how the call works, not what it promises.
use Rattle.std.specs.Prelude.{ℕ, zero, suc, ◌+◌, ◌-◌, ◌*◌, ◌/◌, ◌%◌, ◌^◌, ◌≤◌, ◌<◌, ◌≡◌}
use Rattle.std.specs.Prelude.{Bool, cond, List, [], ◌∷◌, map, eqb, length, get_or, take, drop}
use Rattle.std.proofs.lemmas.List.Edits.{sets}
use Rattle.euclid.specs.Chain.{Pair}
use Rattle.pairs.specs.Words.{State, s10, s11, s01, words_from}
use Rattle.pairs.specs.Sequences.{bit, compositions, quotients}
use Rattle.pairs.specs.Pairs.{turn, turns}
use Rattle.listing.specs.Replies.{codes}

-- The pairs of a list behind the first `skip`, as many as there is room for in a slice that holds `done` pairs.
abbrev pub fitting : List Pair → ℕ → List ℕ → ℕ → List Pair
fitting pairs skip slice done = take (length slice / 2 - done) (drop skip pairs)

-- They were written behind the `done` pairs.
pub record Written (pairs : List Pair) (skip : ℕ) (old : List ℕ) (done : ℕ) (new : List ℕ) (all : ℕ) : Type 0 where
  pub end : all ≡ done + length (fitting pairs skip old done)
  pub content : new ≡ sets old (2 * done) (codes (fitting pairs skip old done))

-- The automaton's state, from the constant terms of the remainders.
unfoldable pub state_of : ℕ → ℕ → State
state_of r s = cond (eqb (r % 2) 0) s01 (cond (eqb (s % 2) 0) s10 s11)

-- A head is a quotient without its constant term, divided by x. The quotients of the first m heads, the last of these first, with the
-- letters of a word.
abbrev pub lettered : List ℕ → ℕ → List Bool → List ℕ
lettered heads zero w = []
lettered heads (suc m) [] = []
lettered heads (suc m) (l ∷ w) = (get_or heads m 0 * 2 + bit l) ∷ lettered heads m w

-- What they make of (r, s), with each word that leads to (1,0).
unfoldable pub onward : List ℕ → ℕ → ℕ → ℕ → List Pair
onward heads m r s = map (λ w. turn (turns (record { f = r; g = s }) (lettered heads m w)) 1) (words_from (state_of r s) m)

-- The first m heads keep remainders of degree up to a within 32 bits: a head below 2^d raises a degree by at most d.
abbrev pub Fits : List ℕ → ℕ → ℕ → Type 0
Fits heads zero a = a ≤ 31
Fits heads (suc m) a = (d : ℕ) × (get_or heads m 0 < 2 ^ d) × Fits heads m (a + d)

-- Remainders r and s that m heads can go on from.
pub record Ready (heads : List ℕ) (m r s : ℕ) : Type 0 where
  pub some : 1 ≤ m
  pub few : m ≤ 31
  pub odd : 1 ≤ r % 2 + s % 2
  pub size : ℕ
  pub small_r : r < 2 ^ suc size
  pub small_s : s < 2 ^ suc size
  pub room : Fits heads m size

-- The sequences of a block that have the same degrees and intermediate bits are a group; its number tells both.
unfoldable pub group : ℕ → ℕ → ℕ → List Bool → List ℕ
group n k i = quotients (get_or (compositions n k) (i / 2 ^ (n - k)) []) (i % 2 ^ (n - k))

-- The heads of a group.
pub record HeadsOf (n k i : ℕ) (heads : List ℕ) : Type 0 where
  pub give : (w : List Bool) → length w ≡ k → lettered heads k w ≡ group n k i w
