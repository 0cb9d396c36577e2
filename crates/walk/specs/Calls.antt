-- A list of calls on a walk: what they answer, and the record after them.
use Rattle.std.specs.Prelude.{ℕ, ◌+◌, cond, List, [], ◌∷◌, eqb, get_or, take, drop}
use Rattle.reply.specs.Reply.{Reply, served, refused, spent}
use Rattle.walk.specs.declared.Walk.{Walk}
use Rattle.walk.specs.Walks.{look_reply, draw_reply, after_draw, set_mark_reply, after_set_mark, go_back_reply, after_go_back}

-- A draw has the number of its bonder; setting a mark and going back have that of the mark.
pub data Call : Type 0 where
  look : Call
  draw : ℕ → Call
  set_mark : ℕ → Call
  go_back : ℕ → Call

-- A call with its answer.
pub record Answered : Type 0 where
  pub call : Call
  pub reply : Reply

-- What a call answers to a record, and the record after it, as the contracts of the four calls have them.
abbrev pub reply_to : Call → Walk → Reply
reply_to look walk = look_reply walk
reply_to (draw bonder) walk = draw_reply walk bonder
reply_to (set_mark mark) walk = set_mark_reply walk mark
reply_to (go_back mark) walk = go_back_reply walk mark

abbrev pub record_after : Call → Walk → Walk
record_after look walk = walk
record_after (draw bonder) walk = after_draw walk bonder
record_after (set_mark mark) walk = after_set_mark walk mark
record_after (go_back mark) walk = after_go_back walk mark

-- The answers of a list of calls: each call gets the record as the call before it handed it back or left it.
abbrev pub answers : Walk → List Call → List Answered
answers walk [] = []
answers walk (call ∷ calls) = record { call = call; reply = reply_to call walk } ∷ answers (record_after call walk) calls

-- The record after them.
abbrev pub last : Walk → List Call → Walk
last walk [] = walk
last walk (call ∷ calls) = last (record_after call walk) calls

-- Call i of a list, counted from 0, and its answer; there is one for each call. Behind the last they mean nothing.
abbrev pub call_at : List Call → ℕ → Call
call_at calls i = get_or calls i look

abbrev pub answer : Walk → List Call → ℕ → Reply
answer walk calls i = (get_or (answers walk calls) i (record { call = look; reply = refused 0 })).reply

-- The calls from call i on and before call k, with their answers.
abbrev pub between : Walk → List Call → ℕ → ℕ → List Answered
between walk calls i k = drop i (take k (answers walk calls))

-- How many of the calls are of a kind; `kind` is 1 for a call with its answer that is, and 0 for one that is not.
abbrev pub how_many : (Call → Reply → ℕ) → List Answered → ℕ
how_many kind [] = 0
how_many kind (first ∷ rest) = kind first.call first.reply + how_many kind rest

-- Draws that were not refused.
abbrev pub drew : Call → Reply → ℕ
drew (draw bonder) (served values) = 1
drew (draw bonder) spent = 1
drew (draw bonder) (refused number) = 0
drew look reply = 0
drew (set_mark mark) reply = 0
drew (go_back mark) reply = 0

-- Returns that were served: a return is a call that goes back to a mark.
abbrev pub returned : Call → Reply → ℕ
returned (go_back mark) (served values) = 1
returned (go_back mark) spent = 0
returned (go_back mark) (refused number) = 0
returned look reply = 0
returned (draw bonder) reply = 0
returned (set_mark mark) reply = 0

abbrev pub draws : List Answered → ℕ
draws = how_many drew

abbrev pub returns : List Answered → ℕ
returns = how_many returned

-- Settings of one mark that were served.
abbrev pub sets : ℕ → Call → Reply → ℕ
sets mark (set_mark other) (served values) = cond (eqb mark other) 1 0
sets mark (set_mark other) spent = 0
sets mark (set_mark other) (refused number) = 0
sets mark look reply = 0
sets mark (draw bonder) reply = 0
sets mark (go_back other) reply = 0

-- Draws for one bonder that gave a pair.
abbrev pub given_to : ℕ → Call → Reply → ℕ
given_to bonder (draw other) (served values) = cond (eqb bonder other) 1 0
given_to bonder (draw other) spent = 0
given_to bonder (draw other) (refused number) = 0
given_to bonder look reply = 0
given_to bonder (set_mark mark) reply = 0
given_to bonder (go_back mark) reply = 0

-- Draws that gave a pair, for whatever bonder.
abbrev pub gave : Call → Reply → ℕ
gave (draw bonder) (served values) = 1
gave (draw bonder) spent = 0
gave (draw bonder) (refused number) = 0
gave look reply = 0
gave (set_mark mark) reply = 0
gave (go_back mark) reply = 0

-- Calls that moved the walk: draws that gave a pair, and returns that were served.
abbrev pub moved : Call → Reply → ℕ
moved call reply = gave call reply + returned call reply
