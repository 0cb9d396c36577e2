-- Today's record and the old one go through a list of calls side by side. By each call that is no served return, the degree and the
-- position move as the old release moves them, and a look or a draw answers with the entry at the position, as the old release does. What
-- could part them is number 21, where a count is the highest; but a count that begins at 0 is never above the position before a return, and
-- no list is that long.
use mathlib.Core.List.{List, [], ◌∷◌}
use mathlib.Core.Path.{◌≡◌, refl, sym, ap, ◌∙◌}
use Prim.Native.Nat.{ℕ, suc, ◌≤◌}
use native.Mathlib.Omega.{arith}
use borrow.Author.Tests.{le-ltb}
use lib.ListN.{get_or, take}
use Rattle.reply.specs.Reply.{Reply, served, refused, spent, after}
use Rattle.poly.specs.Limits.{list_length}
use Rattle.poly.proofs.Ranges.{inside}
use Rattle.walk.specs.declared.Walk.{Walk}
use Rattle.walk.specs.Walks.{entry_reply, draw_reply, after_draw, set_mark_reply, after_set_mark, go_back_reply, after_go_back}
use Rattle.walk.specs.Calls.{Call, look, draw, set_mark, go_back, reply_to, record_after, answers, returned, returns}
use Rattle.walk.specs.Claims.{Sound}
use Rattle.walk.proofs.Looks.{good}
use Rattle.walk.proofs.Righting.{as_righted}
use Rattle.walk.proofs.Soundness.{next_sound}
use Rattle.walk.proofs.Walking.{take_answers, each_call}
use Rattle.walk.proofs.Counting.{nothing_yet, count_le, below_full}
use Rattle.walk.proofs.Deciding.{decided}
use Rattle.saved.specs.Release.{OldWalk, old_reply, after_old_draw, old_after, if_shows, from_old, old_part, BondersInRange, AsBefore}
use Rattle.saved.specs.Release.{OldReleaseClaim}

-- ---- the old reply to an accepted record
old_entry : (old : OldWalk) → 1 ≤ old.degree → old.degree ≤ 31 → old.position ≤ list_length old.degree
    → old_reply old ≡ entry_reply old.degree old.position
unfolding old_reply
old_entry old low high end = rw (inside 1 31 low high, le-ltb (list_length old.degree) old.position end)

-- ---- degree and position after a reply
part_after : (reply : Reply) (new walk : Walk) → old_part (after reply new walk) ≡ after reply (old_part new) (old_part walk)
part_after (served values) new walk = refl
part_after (refused number) new walk = refl
part_after spent new walk = refl

-- of a call that leaves them where it is served
part_stays : (reply : Reply) (new walk : Walk) → ((values : List ℕ) → reply ≡ served values → old_part new ≡ old_part walk)
    → old_part (after reply new walk) ≡ old_part walk
part_stays (served values) new walk same = same values refl
part_stays (refused number) new walk same = refl
part_stays spent new walk same = refl

-- ---- one call
-- no count is above the position
abbrev LowCounts : Walk → Type 0
LowCounts walk = (bonder : ℕ) → get_or walk.counts bonder 0 ≤ walk.position

abbrev OneOfEight : Call → Type 0
OneOfEight call = (bonder : ℕ) → call ≡ draw bonder → bonder ≤ 7

module _ (walk : Walk) (sound : Sound walk) (low : LowCounts walk) where
  shows_old : old_reply (old_part walk) ≡ entry_reply walk.degree walk.position
  shows_old = let g = good walk sound.accepted in old_entry (old_part walk) g.degree_low g.degree_high g.position

  draw_old : (bonder : ℕ) → bonder ≤ 7 → draw_reply walk bonder ≡ old_reply (old_part walk)
  draw_old bonder one =
      let room = below_full walk sound bonder (low bonder) in
      (decided walk sound (draw bonder ∷ [])).shown 0 bonder (omega arith) refl one (omega arith) ∙ sym shows_old

  reply_old : (call : Call) → OneOfEight call → if_shows call (reply_to call walk) ≡ if_shows call (old_reply (old_part walk))
  reply_old look one = ap (if_shows look) (each_call walk sound (look ∷ []) 0 (omega arith) ∙ sym shows_old)
  reply_old (draw bonder) one = ap (if_shows (draw bonder)) (draw_old bonder (one bonder refl))
  reply_old (set_mark mark) one = refl
  reply_old (go_back mark) one = refl

  part_old : (call : Call) → OneOfEight call → returned call (reply_to call walk) ≡ 0
      → old_part (record_after call walk) ≡ old_after call (old_part walk)
  unfolding after_draw after_old_draw after_set_mark after_go_back
  part_old look one none = refl
  part_old (draw bonder) one none = rw (draw_old bonder (one bonder refl)) (part_after (old_reply (old_part walk)) _ walk)
  part_old (set_mark mark) one none = part_stays (set_mark_reply walk mark) _ walk (λ values e. refl)
  part_old (go_back mark) one none =
      part_stays (go_back_reply walk mark) _ walk (λ values e. absurd (let z : ◌≡◌ {A = ℕ} 1 0 = rw e at none in omega arith))

-- ---- a list of calls
side_by_side : (calls : List Call) (walk : Walk) → Sound walk → LowCounts walk → BondersInRange calls → returns (answers walk calls) ≡ 0
    → AsBefore walk (old_part walk) calls
side_by_side [] walk sound low ones none = record { answered = refl; left = refl }
side_by_side (call ∷ calls) walk sound low ones none =
    let here : returned call (reply_to call walk) ≡ 0 = omega arith in
    let one : OneOfEight call = λ bonder e. ones 0 bonder (omega arith) e in
    let moved = part_old walk sound low call one here in
    let rest =
    side_by_side calls (record_after call walk) (next_sound walk sound call)
    (λ bonder. count_le walk sound (call ∷ []) (omega arith) bonder (low bonder))
    (λ i bonder h e. ones (suc i) bonder (omega arith) e) (omega arith) in
    record {
      answered = rw (reply_old walk sound low call one, ← moved, rest.answered);
      left = rw (← moved) rest.left;
    }

-- ---- the walk that an old record begins
module _ (old : OldWalk) (low : 1 ≤ old.degree) (high : old.degree ≤ 31) (end : old.position ≤ list_length old.degree) where
  begins : Sound (from_old old)
  begins = (as_righted (from_old old)).0 (record {
    degree_low = low;
    degree_high = high;
    position = end;
    marks = λ mark. let e = nothing_yet mark in omega arith;
    counts = λ bonder. let e = nothing_yet bonder in omega arith;
  }) refl refl

  no_return : (calls : List Call) → BondersInRange calls → returns (answers (from_old old) calls) ≡ 0 → AsBefore (from_old old) old calls
  no_return calls = side_by_side calls (from_old old) begins (λ bonder. let e = nothing_yet bonder in omega arith)

pub released : OldReleaseClaim
released old low high end = record {
  no_return = no_return old low high end;
  up_to = λ calls k ones none. no_return old low high end (take k calls) ones (rw (← take_answers (from_old old) calls k) none);
}
