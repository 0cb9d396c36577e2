-- What a lent record holds after a call that returns another number than 0, and after one that stores a new record only where it returns 0.
use mathlib.Core.Path.{◌≡◌, refl, sym, ap, subst, ◌∙◌}
use mathlib.Core.Bool.{Bool, cond}
use mathlib.Core.List.{List}
use Prim.Native.Nat.{ℕ}
use borrow.Author.Tests.{ne_eqb}
use lib.Dec.{eqb}
use Rattle.std.specs.Prelude.{Result, Ok, Err}
use Rattle.reply.specs.declared.Refusal.{Refusal}
use Rattle.reply.specs.Reply.{Reply, served, refused, spent, after}
use Rattle.walk.specs.declared.Walk.{Walk}
use Rattle.walk.specs.Walks.{change_reply, begun, start_reply, started, record_given, draw_reply, moved_on, after_draw}
use Rattle.walk.specs.Walks.{set_mark_reply, after_set_mark, go_back_reply, after_go_back}
use Rattle.saved.specs.Saved.{load}
use Rattle.saved.specs.Answers.{Loads}
use Rattle.console.specs.Status.{status, status_of, stored}
use Rattle.console.specs.Records.{Changes, Stores, Starts, Loaded, Gives, Draws, SetsMark, GoesBack}
use Rattle.console.proofs.Refusals.{not_0}

-- what is said of an answer's reply is said of the reply that it is known to be
pub given : {answer reply : Reply} → answer ≡ reply → {f g f' g' s : ℕ} → Gives answer f g f' g' s → Gives reply f g f' g' s
given e {f} {g} {f'} {g'} {s} said = subst (λ (reply : Reply). Gives reply f g f' g' s) e said

abbrev Unserved : Reply → Type 0
Unserved reply = status reply ≡ 0 → ⊥

pub unserved : (s : ℕ) (reply : Reply) → s ≡ status reply → (s ≡ 0 → ⊥) → Unserved reply
unserved s reply e t z = t (e ∙ z)

unserved_after : (reply : Reply) → Unserved reply → (new old : Walk) → old ≡ after reply new old
unserved_after (served values) un new old = absurd (un refl)
unserved_after (refused number) un new old = refl
unserved_after spent un new old = refl

-- a call that is not served stores nothing
unchanged : (reply : Reply) (new walk : Walk) {walk' : Walk} {s : ℕ} → Changes reply (after reply new walk) walk' s → (s ≡ 0 → ⊥)
    → Changes reply (after reply new walk) walk s
unchanged reply new walk {s = s} e t = record {
  returned = e.returned;
  stored = unserved_after reply (unserved s reply e.returned t) new walk;
}

pub set_unserved : (walk walk' : Walk) (mark s : ℕ) → SetsMark walk mark walk' s → (s ≡ 0 → ⊥) → SetsMark walk mark walk s
unfolding after_set_mark
set_unserved walk walk' mark s e t = unchanged (set_mark_reply walk mark) _ walk e t

pub back_unserved : (walk walk' : Walk) (mark s : ℕ) → GoesBack walk mark walk' s → (s ≡ 0 → ⊥) → GoesBack walk mark walk s
unfolding after_go_back
back_unserved walk walk' mark s e t = unchanged (go_back_reply walk mark) _ walk e t

pub draw_unserved : {walk walk' : Walk} {bonder f g f' g' s : ℕ} → Draws walk bonder walk' f g f' g' s → (s ≡ 0 → ⊥)
    → Draws walk bonder walk f g f' g' s
unfolding after_draw
draw_unserved {walk} {bonder = bonder} {s = s} e t = record {
  answered = e.answered;
  moved = unserved_after (draw_reply walk bonder) (unserved s (draw_reply walk bonder) e.answered.returned t) _ walk;
}

-- a draw changes neither the degree nor the marks
abbrev pub moved : Walk → Walk → Walk
moved walk to = record {
  degree = walk.degree;
  position = to.position;
  marks = walk.marks;
  counts = to.counts;
  f = to.f;
  g = to.g;
}

moved_after : (walk : Walk) (bonder : ℕ) → moved walk (after_draw walk bonder) ≡ after_draw walk bonder
unfolding after_draw
moved_after walk bonder = go (draw_reply walk bonder)
  where
    go : (reply : Reply) → let w : Walk = after reply (moved_on walk bonder) walk in moved walk w ≡ w
    go (served values) = refl
    go (refused number) = refl
    go spent = refl

pub draw_moved : {walk walk' : Walk} {bonder f g f' g' s : ℕ} → Draws walk bonder walk' f g f' g' s
    → Draws walk bonder (moved walk walk') f g f' g' s
draw_moved {walk} {bonder = bonder} e = record {
  answered = e.answered;
  moved = ap (moved walk) e.moved ∙ moved_after walk bonder;
}

-- the new record is taken where the status is 0, and that is where the call is served
taken : {A : Type 0} (answer : Result A Refusal) (new walk : Walk)
    → cond (eqb (status_of answer) 0) new walk ≡ after (change_reply answer) new walk
taken (Ok a) new walk = refl
taken (Err why) new walk = ap (λ (b : Bool). cond b new walk) (not_0 why)

pub stores : {A : Type 0} (answer : Result A Refusal) {reply : Reply} {new given : Walk} → change_reply answer ≡ reply → given ≡ new
    → Stores (λ walk. Changes reply (after reply new walk)) given (status_of answer)
stores answer {new = new} e is_new walk = record {
  returned = ap status e;
  stored = rw (is_new, taken answer new walk) (ap (λ (r : Reply). after r new walk) e);
}

-- a start's record is another where it is refused, but is taken only where it is not
pub after_twice : (reply : Reply) (new other walk : Walk) → after reply (after reply new other) walk ≡ after reply new walk
after_twice (served values) new other walk = refl
after_twice (refused number) new other walk = refl
after_twice spent new other walk = refl

-- `dw_start` and `dw_load` store what the library answers, where it answers a record: so they store the record given where they return 0
pub store_taken : (answer : Result Walk Refusal) (walk : Walk) → stored answer walk ≡ cond (eqb (status_of answer) 0) (record_given answer) walk
store_taken (Ok new) walk = refl
store_taken (Err why) walk = sym (ap (λ (b : Bool). cond b (begun 0) walk) (not_0 why))

-- and storing it there is what C is promised of a start and of reading a saved walk
pub start_stores : (n : ℕ) (answer : Result Walk Refusal) → change_reply answer ≡ start_reply n → record_given answer ≡ started n
    → Stores (Starts n) (record_given answer) (status_of answer)
start_stores n answer e is walk =
    let told = stores answer e is walk in
    record { returned = told.returned; stored = told.stored ∙ after_twice (start_reply n) (begun n) (begun 0) walk }

pub load_stores : (file : List ℕ) (answer : Result Walk Refusal) → Loads load file answer
    → Stores (Loaded file) (record_given answer) (status_of answer)
load_stores file answer loads = stores answer loads.reply loads.walk

-- what a call says holds of the new record where the status is 0, and else of the one that stands there
module _ (says : Walk → Walk → ℕ → Type 0) (new : Walk) (s : ℕ) (stored : Stores says new s) (walk : Walk) where
  pub new_there : s ≡ 0 → says walk new s
  new_there z = subst (λ (b : Bool). says walk (cond b new walk) s) (ap (λ (v : ℕ). eqb v 0) z) (stored walk)

  pub left_there : (s ≡ 0 → ⊥) → says walk walk s
  left_there ne = subst (λ (b : Bool). says walk (cond b new walk) s) (ne_eqb s 0 ne) (stored walk)
