-- The pair of a record is not looked at by any test, so a record and the one with the pair set right answer alike but for that pair, and
-- the first call that moves the walk leaves the same record of both: induction over the list of calls. Then the call that sets it right.
use mathlib.Core.Bool.{Bool, true, false, cond}
use mathlib.Core.List.{List, [], ◌∷◌}
use mathlib.Core.Path.{◌≡◌, refl, sym, ap, subst, ◌∙◌}
use Prim.Native.Nat.{ℕ, zero, suc, ◌+◌, ◌≤◌, ◌<◌}
use native.Mathlib.Decide.{dec_lt}
use native.Mathlib.Omega.{arith}
use lib.Dec.{ltb}
use lib.ListN.{length, set, take}
use Rattle.reply.specs.Reply.{Reply, served, refused, spent, Cause, ◌gives◌, unless, after}
use Rattle.reply.proofs.Order.{kept}
use Rattle.poly.specs.Limits.{list_length}
use Rattle.euclid.specs.Chain.{Pair}
use Rattle.pairs.specs.Replies.{pair_reply}
use Rattle.walk.specs.declared.Walk.{Walk}
use Rattle.walk.specs.Walks.{next_pair, bad_record, record_cause, held, bonder_cause, full_cause, look_reply, draw_reply, moved_on, after_draw}
use Rattle.walk.specs.Walks.{set_mark_reply, after_set_mark, go_back_reply, after_go_back, righted, set_right_reply, after_set_right}
use Rattle.walk.specs.Calls.{Call, look, draw, set_mark, go_back, reply_to, record_after, answers, last, call_at, answer, how_many, moved}
use Rattle.walk.specs.Claims.{other_pair, with_pair, RightedClaim}
use Rattle.walk.proofs.Looks.{accepted}
use Rattle.walk.proofs.Keeping.{right_at, sets_right}

-- ---- one call
-- after the same tests, one pair or another
other_pair_lem : (causes : List Cause) (below : Bool) (one two : Pair)
    → unless causes (cond below (pair_reply one) spent) ≡ other_pair one (unless causes (cond below (pair_reply two) spent))
other_pair_lem [] true one two = refl
other_pair_lem [] false one two = refl
other_pair_lem ((true gives number) ∷ causes) below one two = refl
other_pair_lem ((false gives number) ∷ causes) below one two = other_pair_lem causes below one two

module _ (walk : Walk) where
  abbrev n : ℕ
  n = walk.degree

  abbrev below : Bool
  below = ltb walk.position (list_length n)

  alike : (call : Call) → reply_to call walk ≡ with_pair (held walk) call (reply_to call (righted walk))
  unfolding bad_record look_reply draw_reply set_mark_reply go_back_reply
  alike look = other_pair_lem (record_cause walk ∷ []) below (held walk) (next_pair n walk.position)
  alike (draw bonder) =
      other_pair_lem (record_cause walk ∷ bonder_cause bonder ∷ full_cause n walk.position walk.counts bonder ∷ []) below (held walk)
      (next_pair n walk.position)
  alike (set_mark mark) = refl
  alike (go_back mark) = refl

  -- a call that moves the walk leaves the same record
  same_moved : (call : Call) → 1 ≤ moved call (reply_to call walk) → record_after call walk ≡ record_after call (righted walk)
  unfolding bad_record after_draw go_back_reply after_go_back
  same_moved look h = absurd (omega arith)
  same_moved (draw bonder) h =
      subst (λ (r : Reply). 1 ≤ moved (draw bonder) r
      → after r (moved_on walk bonder) walk ≡ after drawn (moved_on walk bonder) (righted walk)) (sym (alike (draw bonder))) (go drawn) h
    where
      drawn : Reply
      drawn = draw_reply (righted walk) bonder

      go : (r : Reply) → 1 ≤ moved (draw bonder) (other_pair (held walk) r)
          → after (other_pair (held walk) r) (moved_on walk bonder) walk ≡ after r (moved_on walk bonder) (righted walk)
      go (served values) h = refl
      go (refused number) h = absurd (omega arith)
      go spent h = absurd (omega arith)
  same_moved (set_mark mark) h = absurd (omega arith)
  same_moved (go_back mark) h = go (go_back_reply walk mark) _ h
    where
      go : (r : Reply) (new : Walk) → 1 ≤ moved (go_back mark) r → after r new walk ≡ after r new (righted walk)
      go (served values) new h = refl
      go (refused number) new h = absurd (omega arith)
      go spent new h = absurd (omega arith)

  -- any other leaves the one with the pair set right
  same_righted : (call : Call) → moved call (reply_to call walk) ≡ 0 → righted (record_after call walk) ≡ record_after call (righted walk)
  unfolding bad_record after_draw set_mark_reply after_set_mark go_back_reply after_go_back
  same_righted look h = refl
  same_righted (draw bonder) h =
      subst (λ (r : Reply). moved (draw bonder) r ≡ 0
      → righted (after r (moved_on walk bonder) walk) ≡ after drawn (moved_on walk bonder) (righted walk)) (sym (alike (draw bonder)))
      (go drawn) h
    where
      drawn : Reply
      drawn = draw_reply (righted walk) bonder

      go : (r : Reply) → moved (draw bonder) (other_pair (held walk) r) ≡ 0
          → righted (after (other_pair (held walk) r) (moved_on walk bonder) walk) ≡ after r (moved_on walk bonder) (righted walk)
      go (served values) h = absurd (omega arith)
      go (refused number) h = refl
      go spent h = refl
  same_righted (set_mark mark) h = go (set_mark_reply walk mark)
    where
      stored : Walk → Walk
      stored w = record {
        degree = w.degree;
        position = w.position;
        marks = set w.marks mark (w.position + 1);
        counts = w.counts;
        f = w.f;
        g = w.g;
      }

      go : (r : Reply) → righted (after r (stored walk) walk) ≡ after r (stored (righted walk)) (righted walk)
      go (served values) = refl
      go (refused number) = refl
      go spent = refl
  same_righted (go_back mark) h = go (go_back_reply walk mark) _ h
    where
      go : (r : Reply) (new : Walk) → moved (go_back mark) r ≡ 0 → righted (after r new walk) ≡ after r new (righted walk)
      go (served values) new h = absurd (omega arith)
      go (refused number) new h = refl
      go spent new h = refl

-- ---- the list of calls
unmoved : (walk : Walk) (calls : List Call) (i : ℕ) → i < length calls → how_many moved (take i (answers walk calls)) ≡ 0
    → answer walk calls i ≡ with_pair (held walk) (call_at calls i) (answer (righted walk) calls i)
unmoved walk [] i l h = absurd (omega arith)
unmoved walk (call ∷ calls) zero l h = alike walk call
unmoved walk (call ∷ calls) (suc i) l h =
    let stays : moved call (reply_to call walk) ≡ 0 = omega arith in
    let next : Walk = record_after call walk in
    unmoved next calls i (omega arith) (omega arith)
    ∙ ap (λ (pair : Pair). with_pair pair (call_at calls i) (answer (righted next) calls i)) ((sets_right walk call).staying stays)
    ∙ ap (λ (w : Walk). with_pair (held walk) (call_at calls i) (answer w calls i)) (same_righted walk call stays)

held_on : (walk : Walk) (calls : List Call) → how_many moved (answers walk calls) ≡ 0
    → (righted (last walk calls) ≡ last (righted walk) calls) × (held (last walk calls) ≡ held walk)
held_on walk [] h = (refl, refl)
held_on walk (call ∷ calls) h =
    let stays : moved call (reply_to call walk) ≡ 0 = omega arith in
    let (record_after_lem, pair) = held_on (record_after call walk) calls (omega arith) in
    (rw (← same_righted walk call stays) record_after_lem, pair ∙ (sets_right walk call).staying stays)

-- whether a call moves the walk
module _ (walk : Walk) (call : Call) {A : Type 0} where
  by_move : (1 ≤ moved call (reply_to call walk) → A) → (moved call (reply_to call walk) ≡ 0 → A) → A
  by_move moves stays = go (dec_lt 0 (moved call (reply_to call walk)))
    where
      go : Dec (0 < moved call (reply_to call walk)) → A
      go (yes l) = moves (omega arith)
      go (no l) = stays (omega arith)

moved_on_lem : (walk : Walk) (calls : List Call) (i : ℕ) → i < length calls → 1 ≤ how_many moved (take i (answers walk calls))
    → answer walk calls i ≡ answer (righted walk) calls i
moved_on_lem walk [] i l h = absurd (omega arith)
moved_on_lem walk (call ∷ calls) zero l h = absurd (omega arith)
moved_on_lem walk (call ∷ calls) (suc i) l h =
    by_move walk call
    (λ moves. ap (λ (w : Walk). answer w calls i) (same_moved walk call moves))
    (λ stays. rw (← same_righted walk call stays) (moved_on_lem (record_after call walk) calls i (omega arith) (omega arith)))

left : (walk : Walk) (calls : List Call) → 1 ≤ how_many moved (answers walk calls) → last walk calls ≡ last (righted walk) calls
left walk [] h = absurd (omega arith)
left walk (call ∷ calls) h =
    by_move walk call
    (λ moves. ap (λ (w : Walk). last w calls) (same_moved walk call moves))
    (λ stays. rw (← same_righted walk call stays) (left (record_after call walk) calls (omega arith)))

pub as_righted : RightedClaim
as_righted walk = (
  λ good marks counts. record {
    accepted = accepted (righted walk) (record {
      degree_low = good.degree_low;
      degree_high = good.degree_high;
      position = good.position;
      marks = good.marks;
      counts = good.counts;
    });
    eight_marks = marks;
    eight_counts = counts;
    right = right_at walk.degree walk.position _ _;
  },
  λ calls. record {
    unmoved = unmoved walk calls;
    held_on = held_on walk calls;
    moved_on_lem = moved_on_lem walk calls;
    left = left walk calls;
  },
)

-- ---- the call that sets the pair right
module _ (walk : Walk) where
  pub right_tested : unless (record_cause walk ∷ []) (served []) ≡ set_right_reply walk
  unfolding set_right_reply
  right_tested = refl

  pub right_refused : {k : ℕ} → refused k ≡ set_right_reply walk → walk ≡ after_set_right walk
  unfolding after_set_right
  right_refused e = kept e _ walk

  pub right_done : served [] ≡ set_right_reply walk → righted walk ≡ after_set_right walk
  unfolding after_set_right
  right_done e = rw (← e)
