-- A mark that was set and not set anew still stores where the walk was, so a return to it is served and leads there.
use mathlib.Core.List.{List, [], ◌∷◌}
use mathlib.Core.Path.{◌≡◌, sym, ap, ◌∙◌}
use Prim.Native.Nat.{ℕ, ◌+◌, ◌≤◌, ◌<◌, min}
use native.Mathlib.Numerals.{add-one}
use native.Mathlib.Omega.{arith}
use borrow.Author.Tests.{le-ltb, ltb-false, ne_eqb}
use lib.Dec.{ltb}
use lib.ListN.{length, get_or, take}
use lib.Seq.{take-suc, get_or-set_same}
use Rattle.reply.specs.Reply.{served}
use Rattle.reply.proofs.Order.{sole_served}
use Rattle.poly.specs.Limits.{list_length}
use Rattle.walk.specs.declared.Walk.{Walk}
use Rattle.walk.specs.Calls.{Call, set_mark, go_back, Answered, answers, call_at, answer, between, how_many, sets}
use Rattle.walk.specs.Past.{Past, past_of, told, expected, past_at}
use Rattle.walk.specs.Claims.{Sound, ComesBack}
use Rattle.walk.proofs.Soundness.{last_sound}
use Rattle.walk.proofs.Told.{told_append, told_between, all_kept}
use Rattle.walk.proofs.Walking.{none, length_answers, call_there, each_call, record_at}

module _ (walk : Walk) (sound : Sound walk) (calls : List Call) where
  abbrev n : ℕ
  n = walk.degree

  -- one call more
  one_more_lem : (i : ℕ) → i < length calls → past_at walk calls (i + 1) ≡ told n (call_at calls i) (answer walk calls i) (past_at walk calls i)
  one_more_lem i h =
      let l : List Answered = answers walk calls in
      let inside : i < length l = rw (length_answers walk calls) h in
      rw (add-one i, take-suc l i none inside)
      (told_append n (past_of walk) (take i l) (get_or l i none ∷ [])
      ∙ ap (λ (call : Call). told n call (answer walk calls i) (past_at walk calls i)) (call_there walk calls i h))

  eight_at : (i : ℕ) → length (past_at walk calls i).marks ≡ 8
  eight_at i = ap (λ (w : Walk). length w.marks) (sym (record_at walk sound calls i)) ∙ (last_sound walk sound (take i calls)).eight_marks

  -- a mark that was set stores where the walk was
  stored : (i mark : ℕ) → i < length calls → call_at calls i ≡ set_mark mark → answer walk calls i ≡ served []
      → (mark ≤ 7) × (get_or (past_at walk calls (i + 1)).marks mark 0 ≡ min (list_length n) (past_at walk calls i).place + 1)
  stored i mark h c e =
      let reply : served [] ≡ expected n (past_at walk calls i) (set_mark mark)
      = sym e ∙ each_call walk sound calls i h ∙ ap (expected n (past_at walk calls i)) c in
      let le : mark ≤ 7 = ltb-false 7 mark (sole_served (ltb 7 mark) 18 (served []) reply).0 in
      let inside : mark < length (past_at walk calls i).marks = rw (eight_at i) (omega arith) in
      (le, rw (one_more_lem i h, c, e) (get_or-set_same (past_at walk calls i).marks mark _ 0 inside))

  back_reply : (k mark : ℕ) → k < length calls → call_at calls k ≡ go_back mark
      → answer walk calls k ≡ expected n (past_at walk calls k) (go_back mark)
  back_reply k mark h c = each_call walk sound calls k h ∙ ap (expected n (past_at walk calls k)) c

  -- a mark that is set is gone back to
  returns_to : (k mark position : ℕ) → k < length calls → call_at calls k ≡ go_back mark → mark ≤ 7
      → get_or (past_at walk calls k).marks mark 0 ≡ position + 1
      → (answer walk calls k ≡ served []) × ((past_at walk calls (k + 1)).place ≡ position)
  returns_to k mark position below ck le stored =
      let served_there : answer walk calls k ≡ served []
      = back_reply k mark below ck
      ∙ rw (le-ltb 7 mark le, ne_eqb (get_or (past_at walk calls k).marks mark 0) 0 (λ z. omega arith)) in
      (served_there, rw (one_more_lem k below, ck, served_there, stored) (omega arith))

  -- a mark that was not set since
  still : (k mark : ℕ) → how_many (sets mark) (take k (answers walk calls)) ≡ 0
      → get_or (past_at walk calls k).marks mark 0 ≡ get_or walk.marks mark 0
  still k mark unset = all_kept n mark (past_of walk) (take k (answers walk calls)) unset

  pub comes_back : ComesBack walk calls
  comes_back = record {
    back = λ i k mark h below ci ei unset ck.
        let (le, there) = stored i mark (omega arith) ci ei in
        returns_to k mark (min (list_length n) (past_at walk calls i).place) below ck le
        (ap (λ (past : Past). get_or past.marks mark 0) (told_between n (past_of walk) (answers walk calls) (i + 1) k (omega arith))
        ∙ all_kept n mark (past_at walk calls (i + 1)) (between walk calls (i + 1) k) unset ∙ there);
    kept = λ k mark position below ck le first unset. returns_to k mark position below ck le (still k mark unset ∙ first);
    empty = λ k mark below ck le nothing unset. back_reply k mark below ck ∙ rw (le-ltb 7 mark le, still k mark unset ∙ nothing);
  }
