-- What each call answers, number by number: the answer that the past says, at the counts that the calls before add up to.
use mathlib.Core.List.{List}
use mathlib.Core.Path.{◌≡◌, sym, ap, ◌∙◌}
use Prim.Native.Nat.{ℕ, ◌+◌, ◌<◌}
use native.Mathlib.Omega.{arith}
use borrow.Author.Tests.{lt-ltb, le-ltb}
use lib.ListN.{length, get_or, take}
use Rattle.pairs.specs.Pairs.{entry}
use Rattle.walk.specs.declared.Walk.{Walk}
use Rattle.walk.specs.Calls.{Call, look, draw, set_mark, go_back, Answered, call_at, answer, how_many, given_to}
use Rattle.walk.specs.Past.{expected, past_at}
use Rattle.walk.specs.Claims.{Sound, count_before, Decided}
use Rattle.walk.proofs.Draws.{draw_range, draw_end, draw_full, draw_free}
use Rattle.walk.proofs.Walking.{take_answers, record_at}
use Rattle.walk.proofs.Running.{answer_to}
use Rattle.walk.proofs.Counting.{count}

module _ (walk : Walk) (sound : Sound walk) (calls : List Call) where
  abbrev n : ℕ
  n = walk.degree

  abbrev place : ℕ → ℕ
  place k = (past_at walk calls k).place

  abbrev given : ℕ → List ℕ
  given k = (past_at walk calls k).given

  pub given_at : (k bonder : ℕ) → get_or (given k) bonder 0 ≡ count_before walk calls k bonder
  given_at k bonder =
      ap (λ (w : Walk). get_or w.counts bonder 0) (sym (record_at walk sound calls k)) ∙ count walk sound (take k calls) bonder
      ∙ ap (λ (l : List Answered). get_or walk.counts bonder 0 + how_many (given_to bonder) l) (sym (take_answers walk calls k))

  answers_to : (k : ℕ) → k < length calls → (call : Call) → call_at calls k ≡ call
      → answer walk calls k ≡ expected n (past_at walk calls k) call
  answers_to = answer_to walk sound calls

  pub decided : Decided walk calls
  decided = record {
    looked = λ k h e. answers_to k h look e;
    no_bonder = λ k bonder h e l. answers_to k h (draw bonder) e ∙ draw_range n (place k) (given k) bonder (entry n (place k)) l;
    full = λ k bonder h e one below most.
        answers_to k h (draw bonder) e ∙ draw_full n (place k) (given k) bonder (entry n (place k)) one below (given_at k bonder ∙ most);
    shown = λ k bonder h e one room.
        answers_to k h (draw bonder) e
        ∙ draw_free n (place k) (given k) bonder (entry n (place k)) one (λ most. let is = given_at k bonder in omega arith);
    at_end = λ k bonder h e one end. answers_to k h (draw bonder) e ∙ draw_end n (place k) (given k) bonder (entry n (place k)) one end;
    marked = λ k mark h e le. answers_to k h (set_mark mark) e ∙ rw (le-ltb 7 mark le);
    no_mark_set = λ k mark h e l. answers_to k h (set_mark mark) e ∙ rw (lt-ltb 7 mark l);
    no_mark_back = λ k mark h e l. answers_to k h (go_back mark) e ∙ rw (lt-ltb 7 mark l);
  }
