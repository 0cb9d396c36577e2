-- What is shown of the longest chains.
use Rattle.std.specs.Prelude.{◌↔◌, [], ◌∷◌, ◌≡◌, ℕ, ◌+◌, ◌*◌, ◌%◌, ◌^◌, ◌≤◌, ◌<◌, length}
use Rattle.reply.specs.Reply.{served}
use Rattle.poly.specs.Replies.{length_reply}
use Rattle.euclid.specs.Replies.{chain_reply}
use Rattle.pairs.specs.Pairs.{pairs}
use Rattle.pairs.specs.Replies.{pair_at_reply}
use Rattle.longest.specs.Longest.{quotients_at, longest_at}
use Rattle.longest.specs.Replies.{longest_reply}

-- No pair of the list of degree n has more than n + 1 quotients. The positions that reach it number (2^n + 2(-1)^n)/3, where (-1)^n is
-- 1 - 2 (n % 2), and they are exactly the last ones.
pub record LastReach (n : ℕ) : Type 0 where
  pub at_most : (j : ℕ) → j < length (pairs n) → quotients_at n j ≤ n + 1
  pub number : 3 * length (longest_at n) + 4 * (n % 2) ≡ 2 ^ n + 2
  pub last : (j : ℕ) → j < length (pairs n) → (quotients_at n j ≡ n + 1) ↔ (length (pairs n) ≤ j + length (longest_at n))

abbrev pub LongestClaim : Type 0
LongestClaim = (n : ℕ) → 1 ≤ n → LastReach n

-- At position j the pair call gives a pair, and of it the chain call gives k quotients and divisor 1, in any slice that is long enough.
pub record Counted (n j k : ℕ) : Type 0 where
  pub f : ℕ
  pub g : ℕ
  pub pair : pair_at_reply n j ≡ served (f ∷ g ∷ [])
  pub chain : (room : ℕ) → 32 ≤ room → chain_reply n f g room ≡ served (k ∷ 1 ∷ [])

-- The same of what the calls answer: n + 1 quotients at every position from the given one to the end of the list, which the length call
-- gives, and fewer at every position before it.
pub record FirstReach (n : ℕ) : Type 0 where
  pub count : ℕ
  pub first : ℕ
  pub reply : longest_reply n ≡ served (count ∷ first ∷ [])
  pub some : 0 < count
  pub end : length_reply n ≡ served ((first + count) ∷ [])
  pub from : (j : ℕ) → first ≤ j → j < first + count → Counted n j (n + 1)
  pub before : (j : ℕ) → j < first → (k : ℕ) × (k ≤ n) × Counted n j k

-- Degree 1 says that there are none, and every other degree gives the first.
abbrev pub CallsClaim : Type 0
CallsClaim = (longest_reply 1 ≡ served (0 ∷ [])) × ((n : ℕ) → 2 ≤ n → n ≤ 31 → FirstReach n)
