-- The walk as it was before document 02, and what is claimed of a walk that a file of that release begins (document 02, request i): its
-- looks and draws answer what the old release would have answered.
use Rattle.std.specs.Prelude.{ℕ, ◌+◌, ◌≤◌, ◌<◌, ◌||◌, List, [], ◌∷◌, ◌++◌, ◌≡◌, ltb, length, replicate, take}
use Rattle.reply.specs.Reply.{Reply, Cause, ◌gives◌, unless, after}
use Rattle.poly.specs.Limits.{outside, list_length}
use Rattle.walk.specs.declared.Walk.{Walk}
use Rattle.walk.specs.Walks.{walk_at, entry_reply}
use Rattle.walk.specs.Calls.{Call, look, draw, set_mark, go_back, Answered, answers, last, call_at, returns}

-- ---- the old release (document 01, "Walk")
pub record OldWalk : Type 0 where
  pub degree : ℕ
  pub position : ℕ

-- 3: a degree outside 1 to 31, or a position above the length.
abbrev pub old_cause : OldWalk → Cause
old_cause old = (outside 1 31 old.degree || ltb (list_length old.degree) old.position) gives 3

-- A look and a draw both answer with the pair at the position; spent at the list's end.
unfoldable pub old_reply : OldWalk → Reply
old_reply old = unless (old_cause old ∷ []) (entry_reply old.degree old.position)

-- A draw that gives a pair moves on by one; otherwise the record stays.
unfoldable pub after_old_draw : OldWalk → OldWalk
after_old_draw old = after (old_reply old) (record { degree = old.degree; position = old.position + 1 }) old

-- ---- a list of today's calls, of which the old release has looks and draws, a draw without its bonder
abbrev pub old_after : Call → OldWalk → OldWalk
old_after look old = old
old_after (draw bonder) old = after_old_draw old
old_after (set_mark mark) old = old
old_after (go_back mark) old = old

-- The old record after them.
abbrev pub old_last : OldWalk → List Call → OldWalk
old_last old [] = old
old_last old (call ∷ calls) = old_last (old_after call old) calls

-- The reply, if the call is a look or a draw.
abbrev pub if_shows : Call → Reply → List Reply
if_shows look reply = reply ∷ []
if_shows (draw bonder) reply = reply ∷ []
if_shows (set_mark mark) reply = []
if_shows (go_back mark) reply = []

-- What the old release answers to the looks and draws.
abbrev pub old_answers : OldWalk → List Call → List Reply
old_answers old [] = []
old_answers old (call ∷ calls) = if_shows call (old_reply old) ++ old_answers (old_after call old) calls

-- What is answered to the looks and draws today.
abbrev pub shown_replies : List Answered → List Reply
shown_replies [] = []
shown_replies (first ∷ rest) = if_shows first.call first.reply ++ shown_replies rest

-- ---- the claim
-- The walk that an old record begins: empty marks, counts of zero, and the next pair right.
abbrev pub from_old : OldWalk → Walk
from_old old = walk_at old.degree old.position (replicate 8 0) (replicate 8 0)

-- What today's record has of the old one.
abbrev pub old_part : Walk → OldWalk
old_part walk = record { degree = walk.degree; position = walk.position }

-- Every draw is for a bonder 0 to 7.
abbrev pub BondersInRange : List Call → Type 0
BondersInRange calls = (i bonder : ℕ) → i < length calls → call_at calls i ≡ draw bonder → bonder ≤ 7

-- Looks and draws answer what the old release answers, and the record afterwards has the degree and the position of the old one.
pub record AsBefore (walk : Walk) (old : OldWalk) (calls : List Call) : Type 0 where
  pub answered : shown_replies (answers walk calls) ≡ old_answers old calls
  pub left : old_part (last walk calls) ≡ old_last old calls

-- Every list of calls in which no return is served is answered so; marks may be set in it, and returns refused. In any list, the first k
-- calls are, if no return is served among them: up to the first return that is.
pub record AnswersAsOld (old : OldWalk) : Type 0 where
  pub no_return : (calls : List Call) → BondersInRange calls → returns (answers (from_old old) calls) ≡ 0 → AsBefore (from_old old) old calls
  pub up_to : (calls : List Call) (k : ℕ) → BondersInRange (take k calls) → returns (take k (answers (from_old old) calls)) ≡ 0
      → AsBefore (from_old old) old (take k calls)

-- Of every record that the old release accepts.
abbrev pub OldReleaseClaim : Type 0
OldReleaseClaim =
    (old : OldWalk) → 1 ≤ old.degree → old.degree ≤ 31 → old.position ≤ list_length old.degree → AnswersAsOld old
