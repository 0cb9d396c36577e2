-- The walk (document 01, "Walk"; document 02, request c: its marks, g: its bonders, and h: the next pair kept): what start, look, draw,
-- setting a mark, going back to one and setting the next pair right reply, and the record after them.
use Rattle.std.specs.Prelude.{ℕ, ◌+◌, ◌-◌, Bool, false, ◌||◌, ◌&&◌, cond, List, [], ◌∷◌, ltb, eqb, get_or, set, replicate, Option, Result, Ok, Err}
use Rattle.reply.specs.declared.Refusal.{Refusal}
use Rattle.reply.specs.Reply.{Reply, served, spent, Cause, ◌gives◌, unless, after}
use Rattle.reply.specs.Answers.{answer_reply, optional_reply}
use Rattle.poly.specs.Limits.{outside, list_length}
use Rattle.poly.specs.Causes.{degree_cause}
use Rattle.euclid.specs.Chain.{Pair}
use Rattle.pairs.specs.Pairs.{entry}
use Rattle.pairs.specs.Replies.{pair_reply}
use Rattle.pairs.specs.declared.pair.Pair.{Pair as Given}
use Rattle.walk.specs.declared.Walk.{Walk}

-- The next pair at a position of the list of degree n: the entry there; 0 and 0 from the list's end on.
unfoldable pub next_pair : ℕ → ℕ → Pair
next_pair n position = cond (ltb position (list_length n)) (entry n position) (record { f = 0; g = 0 })

-- The record of a walk at a position, with the next pair right. A mark is stored as 0 if it is empty, else as its position plus 1; a count
-- is how many pairs its bonder was given.
abbrev pub walk_at : ℕ → ℕ → List ℕ → List ℕ → Walk
walk_at n position marks counts = record {
  degree = n;
  position = position;
  marks = marks;
  counts = counts;
  f = (next_pair n position).f;
  g = (next_pair n position).g;
}

-- Starting puts the position at 0, with eight empty marks, and eight bonders that were given nothing yet.
abbrev pub begun : ℕ → Walk
begun n = walk_at n 0 (replicate 8 0) (replicate 8 0)

-- A call that changes a record, or gives one, has no values to give.
abbrev pub change_reply : {A : Type 0} → Result A Refusal → Reply
change_reply = answer_reply (λ _. [])

abbrev pub start_reply : ℕ → Reply
start_reply n = unless (degree_cause n ∷ []) (served [])

-- The record that starting gives. Where it is refused, one of degree 0, which every call refuses.
abbrev pub started : ℕ → Walk
started n = after (start_reply n) (begun n) (begun 0)

-- The record that an answer gives; where it is a refusal, the one of degree 0.
abbrev pub record_given : Result Walk Refusal → Walk
record_given (Ok walk) = walk
record_given (Err why) = begun 0

-- Some number of a list is above `most`.
abbrev pub any_above : ℕ → List ℕ → Bool
any_above most [] = false
any_above most (first ∷ rest) = ltb most first || any_above most rest

-- The highest count: a bonder that has it is given no pair.
abbrev pub full_count : ℕ
full_count = 1000000000000000000

-- A degree outside 1 to 31, a position above the length, a set mark beyond the length, or a count above the highest.
unfoldable pub bad_record : Walk → Bool
bad_record walk =
    outside 1 31 walk.degree || ltb (list_length walk.degree) walk.position
    || any_above (list_length walk.degree + 1) walk.marks || any_above full_count walk.counts

-- 3: bad walk record.
abbrev pub record_cause : Walk → Cause
record_cause walk = bad_record walk gives 3

-- A look and a draw give a pair; where there is none left, they say spent.
abbrev pub next_reply : Result (Option Given) Refusal → Reply
next_reply = optional_reply (λ pair. pair.f ∷ pair.g ∷ [])

-- This pair where the position is below the length of the list of degree n; spent from there on.
abbrev pub pair_or_spent : ℕ → ℕ → Pair → Reply
pair_or_spent n position pair = cond (ltb position (list_length n)) (pair_reply pair) spent

-- The pair that stands at a position of the list; spent from its end on.
abbrev pub entry_reply : ℕ → ℕ → Reply
entry_reply n position = pair_or_spent n position (entry n position)

-- The pair that a record holds.
abbrev pub held : Walk → Pair
held walk = record { f = walk.f; g = walk.g }

-- That pair, or spent, which goes by the position alone.
abbrev pub held_reply : Walk → Reply
held_reply walk = pair_or_spent walk.degree walk.position (held walk)

-- A look answers with the pair that the record holds, whatever that is, or spent.
unfoldable pub look_reply : Walk → Reply
look_reply walk = unless (record_cause walk ∷ []) (held_reply walk)

-- 20: bonder above 7.
abbrev pub bonder_cause : ℕ → Cause
bonder_cause bonder = ltb 7 bonder gives 20

-- 21: the bonder's count is the highest, and a pair is there to give.
abbrev pub full_cause : ℕ → ℕ → List ℕ → ℕ → Cause
full_cause n position counts bonder = (ltb position (list_length n) && eqb (get_or counts bonder 0) full_count) gives 21

-- A draw for a bonder answers as a look does, with two causes more.
unfoldable pub draw_reply : Walk → ℕ → Reply
draw_reply walk bonder =
    unless (record_cause walk ∷ bonder_cause bonder ∷ full_cause walk.degree walk.position walk.counts bonder ∷ [])
    (held_reply walk)

-- The counts with one more pair given to a bonder.
abbrev pub one_more : List ℕ → ℕ → List ℕ
one_more counts bonder = set counts bonder (get_or counts bonder 0 + 1)

-- The record moved on by one, with a pair more given to the bonder, and the next pair right for the new position.
abbrev pub moved_on : Walk → ℕ → Walk
moved_on walk bonder = walk_at walk.degree (walk.position + 1) walk.marks (one_more walk.counts bonder)

-- So it is after a draw that gives a pair; otherwise it stays.
unfoldable pub after_draw : Walk → ℕ → Walk
after_draw walk bonder = after (draw_reply walk bonder) (moved_on walk bonder) walk

-- 18: mark above 7.
abbrev pub mark_cause : ℕ → Cause
mark_cause mark = ltb 7 mark gives 18

-- 19: the mark is empty.
abbrev pub empty_cause : List ℕ → ℕ → Cause
empty_cause marks mark = eqb (get_or marks mark 0) 0 gives 19

unfoldable pub set_mark_reply : Walk → ℕ → Reply
set_mark_reply walk mark = unless (record_cause walk ∷ mark_cause mark ∷ []) (served [])

-- Setting a mark stores the position; the pair that the record holds stays.
unfoldable pub after_set_mark : Walk → ℕ → Walk
after_set_mark walk mark =
    after (set_mark_reply walk mark)
    (record {
      degree = walk.degree;
      position = walk.position;
      marks = set walk.marks mark (walk.position + 1);
      counts = walk.counts;
      f = walk.f;
      g = walk.g;
    }) walk

unfoldable pub go_back_reply : Walk → ℕ → Reply
go_back_reply walk mark = unless (record_cause walk ∷ mark_cause mark ∷ empty_cause walk.marks mark ∷ []) (served [])

-- Going back to a mark takes the stored position up, with the next pair right for it.
unfoldable pub after_go_back : Walk → ℕ → Walk
after_go_back walk mark =
    after (go_back_reply walk mark) (walk_at walk.degree (get_or walk.marks mark 0 - 1) walk.marks walk.counts) walk

-- The record with the pair set right.
abbrev pub righted : Walk → Walk
righted walk = walk_at walk.degree walk.position walk.marks walk.counts

-- Setting the pair right, of a record made by other means: 3 alone refuses it.
unfoldable pub set_right_reply : Walk → Reply
set_right_reply walk = unless (record_cause walk ∷ []) (served [])

unfoldable pub after_set_right : Walk → Walk
after_set_right walk = after (set_right_reply walk) (righted walk) walk
