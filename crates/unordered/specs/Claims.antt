-- What is shown of swapped pairs and of the second list.
use Rattle.std.specs.Prelude.{◌↔◌, ◌⊎◌, [], ◌∷◌, ◌≡◌, ℕ, ◌*◌, ◌/◌, ◌≤◌, ◌<◌, length}
use Rattle.reply.specs.Reply.{served}
use Rattle.euclid.specs.Chain.{Pair}
use Rattle.pairs.specs.Pairs.{pairs, entry, CoprimePair}
use Rattle.pairs.specs.Replies.{pair_at_reply}
use Rattle.positions.specs.Replies.{position_reply}
use Rattle.unordered.specs.Unordered.{swap, other, unordered_entry, unordered_length}
use Rattle.unordered.specs.Replies.{unordered_reply}

-- In the list of any degree, swapping the polynomials of the pair at a position gives the pair at the other position, which is in the list
-- too. Swapping twice gives the same pair, and the other position of the other one is the position itself.
pub record SwapClaim : Type 0 where
  pub below : (n j : ℕ) → j < length (pairs n) → other j < length (pairs n)
  pub there : (n j : ℕ) → j < length (pairs n) → entry n (other j) ≡ swap (entry n j)
  pub twice : (pair : Pair) → swap (swap pair) ≡ pair
  pub back : (j : ℕ) → other (other j) ≡ j

-- Entry j of the second list is the pair or its swap.
abbrev pub Holds : ℕ → ℕ → Pair → Type 0
Holds n j pair = (unordered_entry n j ≡ pair) ⊎ (unordered_entry n j ≡ swap pair)

-- One entry of the second list is the pair or its swap, and no other is.
pub record HeldOnce (n : ℕ) (pair : Pair) : Type 0 where
  pub index : ℕ
  pub below : index < unordered_length n
  pub there : Holds n index pair
  pub only : (j : ℕ) → j < unordered_length n → Holds n j pair → j ≡ index

-- The second list of degree n has half as many entries as the first. Each is a coprime pair of degree n with both constant terms one, and
-- for each such pair exactly one entry is it or its swap.
pub record OneOfTwo (n : ℕ) : Type 0 where
  pub halved : 2 * unordered_length n ≡ length (pairs n)
  pub coprime : (j : ℕ) → j < unordered_length n → CoprimePair n (unordered_entry n j)
  pub once : (pair : Pair) → CoprimePair n pair → HeldOnce n pair

abbrev pub OnceClaim : Type 0
OnceClaim = (n : ℕ) → 1 ≤ n → OneOfTwo n

-- At entry i the second list's call gives f and g, in one order or the other.
abbrev pub GivesEither : ℕ → ℕ → ℕ → ℕ → Type 0
GivesEither n i f g = (unordered_reply n i ≡ served (f ∷ g ∷ [])) ⊎ (unordered_reply n i ≡ served (g ∷ f ∷ []))

-- Where the position call gives j for f and g, it gives the other position for g and f; and the second list's call gives the two at entry
-- j / 2, and at no other.
pub record BothOrders (n f g j : ℕ) : Type 0 where
  pub swapped : position_reply n g f ≡ served (other j ∷ [])
  pub at_half : (i : ℕ) → GivesEither n i f g ↔ (i ≡ j / 2)

-- Whatever the degree, the second list's call answers as the pair call does at twice the entry, refusals too; and `BothOrders` holds of all
-- codes that have a position.
pub record CallsSwap (n : ℕ) : Type 0 where
  pub doubled : (j : ℕ) → unordered_reply n j ≡ pair_at_reply n (2 * j)
  pub placed : (f g j : ℕ) → position_reply n f g ≡ served (j ∷ []) → BothOrders n f g j

abbrev pub CallsClaim : Type 0
CallsClaim = (n : ℕ) → CallsSwap n
