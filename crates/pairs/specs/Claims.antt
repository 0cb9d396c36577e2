-- What is shown of the words and of the list.
use Rattle.std.specs.Prelude.{map, ◌≡◌, ℕ, ◌+◌, ◌-◌, ◌*◌, ◌%◌, ◌^◌, ◌≤◌, ◌<◌, length}
use Rattle.loops.specs.Loops.{numbers}
use Rattle.poly.specs.Limits.{list_length}
use Rattle.euclid.specs.Chain.{Pair}
use Rattle.pairs.specs.Counts.{sum, choose}
use Rattle.pairs.specs.Words.{words}
use Rattle.pairs.specs.Pairs.{pairs, entry, CoprimePair}

-- There are (2^k + 2(-1)^k)/3 kept words of k letters: three times their number is 2^k + 2 for even k, 2^k - 2 for odd k.
abbrev pub WordsClaim : Type 0
WordsClaim = (k : ℕ) → 3 * length (words k) + 4 * (k % 2) ≡ 2 ^ k + 2

-- Source document 000, Lemma 4: k quotients have C(n-1, k-1) lists of degrees, 2^(n-k) values of the intermediate bits, and the words of k
-- letters.
abbrev pub with_quotients : ℕ → ℕ → ℕ
with_quotients n k = choose (n - 1) (k - 1) * (2 ^ (n - k) * length (words k))

-- The pair stands in the list of degree n at one position, and at no other.
pub record Stands (n : ℕ) (pair : Pair) : Type 0 where
  pub position : ℕ
  pub below : position < length (pairs n)
  pub there : entry n position ≡ pair
  pub only : (j : ℕ) → j < length (pairs n) → entry n j ≡ pair → j ≡ position

-- The list of degree n has as many entries as Lemma 4 sums over k, which are 2(4^(n-1) - 1)/3. Each is an ordered coprime pair of degree n
-- with both constant terms one, and each such pair stands in it once.
pub record Complete (n : ℕ) : Type 0 where
  pub counted : length (pairs n) ≡ sum (map (with_quotients n) (numbers 2 (n - 1)))
  pub closed : 3 * length (pairs n) ≡ 2 * (4 ^ (n - 1) - 1)
  pub long : length (pairs n) ≡ list_length n
  pub coprime : (j : ℕ) → j < length (pairs n) → CoprimePair n (entry n j)
  pub once : (pair : Pair) → CoprimePair n pair → Stands n pair

abbrev pub ListClaim : Type 0
ListClaim = (n : ℕ) → 1 ≤ n → Complete n
