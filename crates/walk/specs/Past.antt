-- What the calls and answers so far say of the next answer: no record is looked at but the one that the walk goes on from.
use Rattle.std.specs.Prelude.{ℕ, ◌+◌, ◌-◌, min, List, [], ◌∷◌, get_or, set, take}
use Rattle.reply.specs.Reply.{Reply, served, unless, after}
use Rattle.poly.specs.Limits.{list_length}
use Rattle.walk.specs.declared.Walk.{Walk}
use Rattle.walk.specs.Walks.{walk_at, entry_reply, bonder_cause, full_cause, one_more, mark_cause, empty_cause}
use Rattle.walk.specs.Calls.{Call, look, draw, set_mark, go_back, Answered, answers, drew}

-- Where in the list the walk is, counted on past the list's end with each draw that says spent, its marks as a record has them, and how
-- many pairs each bonder was given.
pub record Past : Type 0 where
  pub place : ℕ
  pub marks : List ℕ
  pub given : List ℕ

-- The past of a walk that goes on from a record.
abbrev pub past_of : Walk → Past
past_of walk = record { place = walk.position; marks = walk.marks; given = walk.counts }

-- One more call in a walk of degree n, and its answer. A draw takes the place on by one, and if it gives a pair, its bonder was given one
-- more; setting a mark stores the place, or the list's end if that is passed; going back takes the marked place up. A call that is refused
-- adds nothing.
abbrev pub told : ℕ → Call → Reply → Past → Past
told n look reply past = past
told n (draw bonder) reply past = record {
  place = past.place + drew (draw bonder) reply;
  marks = past.marks;
  given = after reply (one_more past.given bonder) past.given;
}
told n (set_mark mark) reply past =
    after reply (record {
      place = past.place;
      marks = set past.marks mark (min (list_length n) past.place + 1);
      given = past.given;
    }) past
told n (go_back mark) reply past =
    after reply (record { place = get_or past.marks mark 0 - 1; marks = past.marks; given = past.given }) past

abbrev pub all_told : ℕ → Past → List Answered → Past
all_told n past [] = past
all_told n past (first ∷ rest) = all_told n (told n first.call first.reply past) rest

-- The answer that the past says.
abbrev pub expected : ℕ → Past → Call → Reply
expected n past look = entry_reply n past.place
expected n past (draw bonder) =
    unless (bonder_cause bonder ∷ full_cause n past.place past.given bonder ∷ []) (entry_reply n past.place)
expected n past (set_mark mark) = unless (mark_cause mark ∷ []) (served [])
expected n past (go_back mark) = unless (mark_cause mark ∷ empty_cause past.marks mark ∷ []) (served [])

-- The record that the past says.
abbrev pub record_of : ℕ → Past → Walk
record_of n past = walk_at n (min (list_length n) past.place) past.marks past.given

-- The past before call i of a list of calls on a record.
abbrev pub past_at : Walk → List Call → ℕ → Past
past_at walk calls i = all_told walk.degree (past_of walk) (take i (answers walk calls))
