-- Demand 3, whole, with the marks, the bonders and the kept pair of document 02, requests c, g and h. It is about what the calls answer:
-- `start_reply` and `started` are the reply and the record that the contract of start gives, `reply_to` and `record_after`, over which a list
-- of calls runs, are those of look, draw, setting a mark and going back, `pair_at_reply`, `position_reply` and `site_reply` those of the pair
-- call, the position call and the site call. The fields that name them tie the list of pairs and the squares to these calls.
use Rattle.std.specs.Prelude.{◌↔◌, List, [], ◌∷◌, ◌≡◌, ℕ, ◌%◌, ◌^◌, ◌≤◌, ◌<◌, length}
use Rattle.reply.specs.Reply.{served}
use Rattle.poly.specs.Code.{HasDegree}
use Rattle.poly.specs.Coprime.{Coprime}
use Rattle.poly.specs.Limits.{list_length}
use Rattle.euclid.specs.Chain.{Pair}
use Rattle.pairs.specs.Pairs.{pairs, entry, CoprimePair}
use Rattle.pairs.specs.Replies.{pair_reply, pair_at_reply}
use Rattle.positions.specs.Replies.{position_reply}
use Rattle.squares.specs.Squares.{ExactlyOne, Orthogonal}
use Rattle.squares.specs.Symbols.{symbol}
use Rattle.squares.specs.Replies.{site_reply}
use Rattle.walk.specs.Walks.{begun, start_reply, started}
use Rattle.walk.specs.Calls.{Call, answers, returns}
use Rattle.walk.specs.Claims.{Walked, Decided, RunsOn, NoRepeat, ComesBack, Counted, Plain, Fresh, Full}

-- A code of degree n with constant term one.
pub record Polynomial (n code : ℕ) : Type 0 where
  pub degree : HasDegree 2 n code
  pub constant : code % 2 ≡ 1

pub record Demand (n : ℕ) : Type 0 where
  -- Starting gives the record from which the calls go on.
  pub begins : (start_reply n ≡ served []) × (started n ≡ begun n)
  -- For every list of looks, draws, marks set and returns on it: each answer is the one that the calls and answers before it say, and so is
  -- the record afterwards, which holds the pair at its position, or 0 and 0 at the list's end; no answer is number 3.
  pub walk : (calls : List Call) → Walked (begun n) calls
  -- Which call is served and which refused, and by which number.
  pub decided : (calls : List Call) → Decided (begun n) calls
  -- From the start or a return up to the next one, marks set or not, the draws run on through the list.
  pub runs_on : (calls : List Call) → RunsOn (begun n) calls
  -- A pair is drawn again only if a return was served since.
  pub no_repeat : (calls : List Call) → NoRepeat (begun n) calls
  -- Setting a mark stores where the walk is, and going back takes that up.
  pub comes_back : (calls : List Call) → ComesBack (begun n) calls
  -- No count ever falls, and each depends on the draws for its bonder that gave a pair, and on nothing else.
  pub counted : (calls : List Call) → Counted (begun n) calls
  -- The count of a bonder is how many draws for it gave a pair, and the eight add up to all draws that gave one; a mark is empty until it
  -- is set.
  pub fresh : (calls : List Call) → Fresh n calls
  -- Where no return is served: no look is refused, and a draw exactly where its bonder is above 7, by 20; a look or a draw that is not
  -- refused, with j draws before it that were not, gives the pair at position j if j is below L, and says spent exactly when j is L or
  -- more; and afterwards the record has degree n and, as its position, the smaller of L and the number of draws that were not refused,
  -- which is what the eight counts add up to.
  pub plain : (calls : List Call) → returns (answers (begun n) calls) ≡ 0 → Plain n calls
  -- Where a count is 10^18, a return was served before, and so before any 21.
  pub full : (calls : List Call) → Full n calls
  -- L is the length of the list of pairs.
  pub long : length (pairs n) ≡ list_length n
  -- The pair at a position is what the pair call gives, and the position call finds it there.
  pub pair : (j : ℕ) → j < list_length n → pair_at_reply n j ≡ pair_reply (entry n j)
  pub found : (j : ℕ) → j < list_length n → position_reply n (entry n j).f (entry n j).g ≡ served (j ∷ [])
  -- The pairs at positions 0 to L - 1 are ordered coprime pairs of degree n with both constant terms one ..
  pub no_stranger : (j : ℕ) → j < list_length n → CoprimePair n (entry n j)
  -- .. all of them, once each.
  pub all_once : (two : Pair) → CoprimePair n two → ExactlyOne (λ (j : ℕ). (j < list_length n) × (entry n j ≡ two))
  -- The squares have at each site the symbols that the site call gives.
  pub site : (f g row col : ℕ) → Polynomial n f → Polynomial n g → row < 2 ^ n → col < 2 ^ n
      → site_reply n f g row col ≡ served (symbol 2 n f row col ∷ symbol 2 n g row col ∷ [])
  -- The two squares of order 2^n, laid together, show each pair of symbols at exactly one site if the two are coprime, and only then.
  pub crossing : (f g : ℕ) → Polynomial n f → Polynomial n g
      → Orthogonal (2 ^ n) (symbol 2 n f) (symbol 2 n g) ↔ Coprime 2 f g

-- At any degree n from 1 to 31, with L = 2(4^(n-1) - 1)/3, which is `list_length n`.
abbrev pub DemandThree : Type 0
DemandThree = (n : ℕ) → 1 ≤ n → n ≤ 31 → Demand n
