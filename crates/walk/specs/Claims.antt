-- What is claimed of every list of calls on a walk: looks, draws, marks set and returns in any order (demand 3; document 02, requests c,
-- g and h); and of one call on any record.
use Rattle.std.specs.Prelude.{true, false, ◌↔◌, ◌≡◌, ℕ, ◌+◌, ◌≤◌, ◌<◌, min, List, [], ◌∷◌, ◌++◌, length, get_or, take}
use Rattle.reply.specs.Reply.{Reply, served, refused, spent}
use Rattle.poly.specs.Limits.{list_length}
use Rattle.euclid.specs.Chain.{Pair}
use Rattle.pairs.specs.Counts.{sum}
use Rattle.pairs.specs.Pairs.{entry}
use Rattle.pairs.specs.Replies.{pair_reply}
use Rattle.walk.specs.declared.Walk.{Walk}
use Rattle.walk.specs.Walks.{begun, bad_record, entry_reply, held, righted}
use Rattle.walk.specs.Calls.{Call, look, draw, set_mark, go_back, reply_to, record_after, answers, last, call_at, answer, between}
use Rattle.walk.specs.Calls.{how_many, draws, returns, sets, given_to, gave, moved}
use Rattle.walk.specs.Past.{past_at, expected, record_of}

-- The records that are not refused by 3: the degree is 1 to 31, the position not above the length, no set mark beyond the length, and no
-- count above 10^18. A mark that is set stores its position plus 1.
pub record Good (walk : Walk) : Type 0 where
  pub degree_low : 1 ≤ walk.degree
  pub degree_high : walk.degree ≤ 31
  pub position : walk.position ≤ list_length walk.degree
  pub marks : (mark : ℕ) → get_or walk.marks mark 0 ≤ list_length walk.degree + 1
  pub counts : (bonder : ℕ) → get_or walk.counts bonder 0 ≤ 1000000000000000000

abbrev pub GoodClaim : Type 0
GoodClaim = (walk : Walk) → (bad_record walk ≡ false) ↔ Good walk

-- The record holds the pair that stands at its position, or 0 and 0 at the list's end.
pub record PairRight (walk : Walk) : Type 0 where
  pub below : walk.position < list_length walk.degree → held walk ≡ entry walk.degree walk.position
  pub at_end : list_length walk.degree ≤ walk.position → held walk ≡ record { f = 0; g = 0 }

-- The pair is right, number 3 has no cause, and there are eight marks and eight counts, as every record of the program has them.
pub record Sound (walk : Walk) : Type 0 where
  pub accepted : bad_record walk ≡ false
  pub eight_marks : length walk.marks ≡ 8
  pub eight_counts : length walk.counts ≡ 8
  pub right : PairRight walk

-- Each answer is the one that the calls and answers before it say, and never number 3; the record afterwards is sound, and the one that all
-- of them say.
pub record Walked (walk : Walk) (calls : List Call) : Type 0 where
  pub answered : (i : ℕ) → i < length calls → answer walk calls i ≡ expected walk.degree (past_at walk calls i) (call_at calls i)
  pub never_3 : (i : ℕ) → i < length calls → answer walk calls i ≡ refused 3 → ⊥
  pub sound : Sound (last walk calls)
  pub left : last walk calls ≡ record_of walk.degree (past_at walk calls (length calls))

abbrev pub NotRefused : Reply → Type 0
NotRefused (served values) = Unit {0}
NotRefused spent = Unit {0}
NotRefused (refused number) = ⊥

-- The call is a look, or a draw that is not refused.
abbrev pub Shows : Call → Reply → Type 0
Shows look reply = Unit {0}
Shows (draw bonder) reply = NotRefused reply
Shows (set_mark mark) reply = ⊥
Shows (go_back mark) reply = ⊥

-- How many pairs a bonder was given before call k: what its count was at first, plus the draws for it that gave a pair.
abbrev pub count_before : Walk → List Call → ℕ → ℕ → ℕ
count_before walk calls k bonder = get_or walk.counts bonder 0 + how_many (given_to bonder) (take k (answers walk calls))

-- What each call answers at the place where the walk is, number by number; what going back to one of the eight marks answers is in
-- `ComesBack`.
pub record Decided (walk : Walk) (calls : List Call) : Type 0 where
  pub looked : (k : ℕ) → k < length calls → call_at calls k ≡ look
      → answer walk calls k ≡ entry_reply walk.degree (past_at walk calls k).place
  pub no_bonder : (k bonder : ℕ) → k < length calls → call_at calls k ≡ draw bonder → 7 < bonder → answer walk calls k ≡ refused 20
  pub full : (k bonder : ℕ) → k < length calls → call_at calls k ≡ draw bonder → bonder ≤ 7
      → (past_at walk calls k).place < list_length walk.degree → count_before walk calls k bonder ≡ 1000000000000000000
      → answer walk calls k ≡ refused 21
  pub shown : (k bonder : ℕ) → k < length calls → call_at calls k ≡ draw bonder → bonder ≤ 7
      → count_before walk calls k bonder < 1000000000000000000
      → answer walk calls k ≡ entry_reply walk.degree (past_at walk calls k).place
  pub at_end : (k bonder : ℕ) → k < length calls → call_at calls k ≡ draw bonder → bonder ≤ 7
      → list_length walk.degree ≤ (past_at walk calls k).place → answer walk calls k ≡ spent
  pub marked : (k mark : ℕ) → k < length calls → call_at calls k ≡ set_mark mark → mark ≤ 7 → answer walk calls k ≡ served []
  pub no_mark_set : (k mark : ℕ) → k < length calls → call_at calls k ≡ set_mark mark → 7 < mark → answer walk calls k ≡ refused 18
  pub no_mark_back : (k mark : ℕ) → k < length calls → call_at calls k ≡ go_back mark → 7 < mark → answer walk calls k ≡ refused 18

-- From the start, or from behind a return or any other call, up to the next return, marks set or not, the draws run on through the list:
-- with no return served from call i on and before call k, the walk is at call k further on than at call i by the number of draws between
-- that were not refused, for whatever bonders, and a look, or a draw that is not refused, answers there with the entry at that place, or
-- spent from the list's end on.
pub record RunsOn (walk : Walk) (calls : List Call) : Type 0 where
  pub place : (i k : ℕ) → i ≤ k → returns (between walk calls i k) ≡ 0
      → (past_at walk calls k).place ≡ (past_at walk calls i).place + draws (between walk calls i k)
  pub answered : (i k : ℕ) → i ≤ k → k < length calls → returns (between walk calls i k) ≡ 0
      → Shows (call_at calls k) (answer walk calls k)
      → answer walk calls k ≡ entry_reply walk.degree ((past_at walk calls i).place + draws (between walk calls i k))

-- Two draws that give the same pair, to whatever bonders, have a return between them that was served.
abbrev pub NoRepeat : Walk → List Call → Type 0
NoRepeat walk calls =
    (i k a b : ℕ) → i < k → k < length calls → call_at calls i ≡ draw a → call_at calls k ≡ draw b → (f g : ℕ)
    → answer walk calls i ≡ served (f ∷ g ∷ []) → answer walk calls k ≡ served (f ∷ g ∷ []) → 1 ≤ returns (between walk calls i k)

-- Setting a mark stores where the walk is, and going back takes that up. If call i sets a mark, call k goes back to it, and no call between
-- sets it anew, then the return is served, and the walk is again where it was at call i, or at the list's end if it was past that. Going
-- back to a mark that the record had at first, and that was not set since, leads to its position, and is refused by 19 if it was empty.
pub record ComesBack (walk : Walk) (calls : List Call) : Type 0 where
  pub back : (i k mark : ℕ) → i < k → k < length calls → call_at calls i ≡ set_mark mark → answer walk calls i ≡ served []
      → how_many (sets mark) (between walk calls (i + 1) k) ≡ 0 → call_at calls k ≡ go_back mark
      → (answer walk calls k ≡ served [])
      × ((past_at walk calls (k + 1)).place ≡ min (list_length walk.degree) (past_at walk calls i).place)
  pub kept : (k mark position : ℕ) → k < length calls → call_at calls k ≡ go_back mark → mark ≤ 7
      → get_or walk.marks mark 0 ≡ position + 1 → how_many (sets mark) (take k (answers walk calls)) ≡ 0
      → (answer walk calls k ≡ served []) × ((past_at walk calls (k + 1)).place ≡ position)
  pub empty : (k mark : ℕ) → k < length calls → call_at calls k ≡ go_back mark → mark ≤ 7 → get_or walk.marks mark 0 ≡ 0
      → how_many (sets mark) (take k (answers walk calls)) ≡ 0 → answer walk calls k ≡ refused 19

-- The counts after the calls. That of a bonder is its count at first plus how many draws for this bonder gave a pair: it depends on nothing
-- else. The sum of the eight is their sum at first plus how many draws gave a pair. None is lower after more calls, returns among them.
pub record Counted (walk : Walk) (calls : List Call) : Type 0 where
  pub count : (bonder : ℕ)
      → get_or (last walk calls).counts bonder 0 ≡ get_or walk.counts bonder 0 + how_many (given_to bonder) (answers walk calls)
  pub total : sum (last walk calls).counts ≡ sum walk.counts + how_many gave (answers walk calls)
  pub never_falls : (more : List Call) (bonder : ℕ)
      → get_or (last walk calls).counts bonder 0 ≤ get_or (last walk (calls ++ more)).counts bonder 0

-- All this holds from any sound record on.
pub record GoesOn (walk : Walk) (calls : List Call) : Type 0 where
  pub walked : Walked walk calls
  pub decided : Decided walk calls
  pub runs_on : RunsOn walk calls
  pub no_repeat : NoRepeat walk calls
  pub comes_back : ComesBack walk calls
  pub counted : Counted walk calls

abbrev pub WalkClaim : Type 0
WalkClaim = (walk : Walk) → Sound walk → (calls : List Call) → GoesOn walk calls

-- Every call refuses a bad record with number 3.
abbrev pub BadClaim : Type 0
BadClaim = (walk : Walk) → bad_record walk ≡ true → (call : Call) → reply_to call walk ≡ refused 3

-- A refused call, of whatever record, changes nothing.
abbrev pub RefusedClaim : Type 0
RefusedClaim = (walk : Walk) (call : Call) (number : ℕ) → reply_to call walk ≡ refused number → record_after call walk ≡ walk

-- A record made by other means, which number 3 does not refuse, is read as it is. Below the list's end, a look gives the pair that it
-- holds, and so does a draw for one of the eight bonders whose count is below 10^18; where the count is 10^18, the draw is refused by 21.
-- At the end both say spent, whatever the record holds.
pub record ReadAsIs (walk : Walk) : Type 0 where
  pub looked : walk.position < list_length walk.degree → reply_to look walk ≡ served (walk.f ∷ walk.g ∷ [])
  pub drawn : (bonder : ℕ) → bonder ≤ 7 → get_or walk.counts bonder 0 < 1000000000000000000 → walk.position < list_length walk.degree
      → reply_to (draw bonder) walk ≡ served (walk.f ∷ walk.g ∷ [])
  pub full : (bonder : ℕ) → bonder ≤ 7 → get_or walk.counts bonder 0 ≡ 1000000000000000000 → walk.position < list_length walk.degree
      → reply_to (draw bonder) walk ≡ refused 21
  pub look_spent : walk.position ≡ list_length walk.degree → reply_to look walk ≡ spent
  pub draw_spent : (bonder : ℕ) → bonder ≤ 7 → walk.position ≡ list_length walk.degree → reply_to (draw bonder) walk ≡ spent

abbrev pub AsIsClaim : Type 0
AsIsClaim = (walk : Walk) → Good walk → ReadAsIs walk

-- Of whatever record, a draw that gives a pair and a return that is served set the pair right for the new position, whatever stood there;
-- any other call leaves it.
pub record SetsRight (walk : Walk) (call : Call) : Type 0 where
  pub moving : 1 ≤ moved call (reply_to call walk) → PairRight (record_after call walk)
  pub staying : moved call (reply_to call walk) ≡ 0 → held (record_after call walk) ≡ held walk

abbrev pub SetsRightClaim : Type 0
SetsRightClaim = (walk : Walk) (call : Call) → SetsRight walk call

-- A reply that gives this pair where the other gives one.
abbrev pub other_pair : Pair → Reply → Reply
other_pair pair (served values) = pair_reply pair
other_pair pair (refused number) = refused number
other_pair pair spent = spent

-- The reply to a call, with this pair where a look or a draw gives one.
abbrev pub with_pair : Pair → Call → Reply → Reply
with_pair pair look reply = other_pair pair reply
with_pair pair (draw bonder) reply = other_pair pair reply
with_pair pair (set_mark mark) reply = reply
with_pair pair (go_back mark) reply = reply

-- Whatever pair a record holds, a list of calls on it answers as on the record with the pair set right, but for that pair: until a call
-- has moved the walk, looks and draws give the pair that the record holds, and it goes on holding it; afterwards nothing differs.
pub record AsRighted (walk : Walk) (calls : List Call) : Type 0 where
  pub unmoved : (i : ℕ) → i < length calls → how_many moved (take i (answers walk calls)) ≡ 0
      → answer walk calls i ≡ with_pair (held walk) (call_at calls i) (answer (righted walk) calls i)
  pub held_on : how_many moved (answers walk calls) ≡ 0
      → (righted (last walk calls) ≡ last (righted walk) calls) × (held (last walk calls) ≡ held walk)
  pub moved_on_lem : (i : ℕ) → i < length calls → 1 ≤ how_many moved (take i (answers walk calls))
      → answer walk calls i ≡ answer (righted walk) calls i
  pub left : 1 ≤ how_many moved (answers walk calls) → last walk calls ≡ last (righted walk) calls

-- Where number 3 does not refuse the record, the other one is sound, so that all that is claimed of a list of calls holds of it.
abbrev pub RightedClaim : Type 0
RightedClaim =
    (walk : Walk) → (Good walk → length walk.marks ≡ 8 → length walk.counts ≡ 8 → Sound (righted walk))
    × ((calls : List Call) → AsRighted walk calls)

-- How many draws before call i were not refused.
abbrev pub draws_before : Walk → List Call → ℕ → ℕ
draws_before walk calls i = draws (take i (answers walk calls))

-- Demand 3 in its own words, from the record that starting gives. No look is refused, and a draw exactly where its bonder is above 7, by
-- 20. Each look and each draw that is not refused, with j draws before it in the list that were not refused, gives the pair at position j
-- of the list if j is below its length L, and says spent if j is L or more. After all calls the degree is still n, and the position is the
-- smaller of L and how many draws were not refused; the eight counts add up to the position.
pub record Plain (n : ℕ) (calls : List Call) : Type 0 where
  pub look_shows : (i : ℕ) → i < length calls → call_at calls i ≡ look → NotRefused (answer (begun n) calls i)
  pub draw_shows : (i bonder : ℕ) → i < length calls → call_at calls i ≡ draw bonder → bonder ≤ 7 → NotRefused (answer (begun n) calls i)
  pub no_bonder : (i bonder : ℕ) → i < length calls → call_at calls i ≡ draw bonder → 7 < bonder → answer (begun n) calls i ≡ refused 20
  pub pair : (i : ℕ) → i < length calls → Shows (call_at calls i) (answer (begun n) calls i) → draws_before (begun n) calls i < list_length n
      → answer (begun n) calls i ≡ pair_reply (entry n (draws_before (begun n) calls i))
  pub spent_at_end : (i : ℕ) → i < length calls → Shows (call_at calls i) (answer (begun n) calls i)
      → list_length n ≤ draws_before (begun n) calls i → answer (begun n) calls i ≡ spent
  pub degree : (last (begun n) calls).degree ≡ n
  pub position : (last (begun n) calls).position ≡ min (list_length n) (draws (answers (begun n) calls))
  pub counts : sum (last (begun n) calls).counts ≡ (last (begun n) calls).position

-- So it is for every list of calls in which no return is served; marks may be set in it, and returns refused.
abbrev pub PlainClaim : Type 0
PlainClaim = (n : ℕ) → 1 ≤ n → n ≤ 31 → (calls : List Call) → returns (answers (begun n) calls) ≡ 0 → Plain n calls

-- From the record that starting gives, where no mark is set and nothing was given: going back to a mark that was not set is refused by 19;
-- the count of a bonder is how many draws for it gave a pair, and the eight add up to all draws that gave one.
pub record Fresh (n : ℕ) (calls : List Call) : Type 0 where
  pub empty : (k mark : ℕ) → k < length calls → call_at calls k ≡ go_back mark → mark ≤ 7
      → how_many (sets mark) (take k (answers (begun n) calls)) ≡ 0 → answer (begun n) calls k ≡ refused 19
  pub count : (bonder : ℕ) → get_or (last (begun n) calls).counts bonder 0 ≡ how_many (given_to bonder) (answers (begun n) calls)
  pub total : sum (last (begun n) calls).counts ≡ how_many gave (answers (begun n) calls)

-- No list has 10^18 pairs. So where a count is 10^18 after a list of calls from the record that starting gives, a return was served among
-- them; and a return was served before any call that is refused by 21.
pub record Full (n : ℕ) (calls : List Call) : Type 0 where
  pub reached : (bonder : ℕ) → get_or (last (begun n) calls).counts bonder 0 ≡ 1000000000000000000 → 1 ≤ returns (answers (begun n) calls)
  pub before_21 : (i : ℕ) → i < length calls → answer (begun n) calls i ≡ refused 21 → 1 ≤ returns (take i (answers (begun n) calls))

abbrev pub FreshClaim : Type 0
FreshClaim = (n : ℕ) → 1 ≤ n → n ≤ 31 → (calls : List Call) → Fresh n calls

abbrev pub FullClaim : Type 0
FullClaim = (n : ℕ) → 1 ≤ n → n ≤ 31 → (calls : List Call) → Full n calls
