-- The claims about a list of calls, put together; demand 3's own words are the case of a start and no return.
use mathlib.Core.List.{List}
use mathlib.Core.Path.{◌≡◌, refl, sym, ap, ◌∙◌}
use Prim.Native.Nat.{ℕ, ◌+◌, ◌≤◌, ◌<◌, min}
use native.Mathlib.Nat.{zero-add}
use native.Mathlib.Decide.{dec_lt}
use native.Mathlib.Omega.{arith}
use borrow.Author.Tests.{lt-ltb, le-ltb}
use lib.ListN.{length, take}
use Rattle.reply.proofs.Order.{kept}
use Rattle.poly.specs.Limits.{list_length}
use Rattle.poly.proofs.Ranges.{inside}
use Rattle.walk.specs.declared.Walk.{Walk}
use Rattle.walk.specs.Walks.{begun, full_count, bad_record, entry_reply, after_draw, after_set_mark, after_go_back}
use Rattle.walk.specs.Calls.{Call, look, draw, set_mark, go_back, answers, call_at, answer, returned, draws, returns}
use Rattle.walk.specs.Past.{past_at}
use Rattle.walk.specs.Claims.{GoodClaim, Sound, Shows, count_before, WalkClaim, BadClaim, RefusedClaim, AsIsClaim, draws_before}
use Rattle.walk.specs.Claims.{Plain, PlainClaim, Fresh, FreshClaim, Full, FullClaim}
use Rattle.walk.proofs.Tests.{test_bad}
use Rattle.walk.proofs.Looks.{good, accepted, bad_look, look_below, look_end}
use Rattle.walk.proofs.Keeping.{right_at}
use Rattle.walk.proofs.Draws.{draw_bad, end_reply, full_reply, pair_reply_lem}
use Rattle.walk.proofs.Marks.{set_tested, back_untested}
use Rattle.walk.proofs.Told.{take_many}
use Rattle.walk.proofs.Walking.{not_refused, Refusing, by_number, by_count, refusing, take_answers, each_call, all, walked}
use Rattle.walk.proofs.Running.{place_at, runs_on, no_repeat}
use Rattle.walk.proofs.Returning.{comes_back}
use Rattle.walk.proofs.Counting.{nothing_yet, count, counted, moved_on_lem, not_full}
use Rattle.walk.proofs.Deciding.{given_at, decided}

pub walk_goes_on : WalkClaim
walk_goes_on walk sound calls = record {
  walked = walked walk sound calls;
  decided = decided walk sound calls;
  runs_on = runs_on walk sound calls;
  no_repeat = no_repeat walk sound calls;
  comes_back = comes_back walk sound calls;
  counted = counted walk sound calls;
}

pub good_accepted : GoodClaim
good_accepted walk = (good walk, accepted walk)

pub bad_refused : BadClaim
bad_refused walk bad look = sym (bad_look walk bad)
bad_refused walk bad (draw bonder) = sym (draw_bad walk bonder bad)
bad_refused walk bad (set_mark mark) = sym (test_bad walk mark 18 bad ∙ set_tested walk mark)
bad_refused walk bad (go_back mark) = sym (back_untested walk mark (test_bad walk mark 18 bad))

pub refused_unmoved : RefusedClaim
unfolding after_draw after_set_mark after_go_back
refused_unmoved walk look number e = refl
refused_unmoved walk (draw bonder) number e = sym (kept (sym e) _ walk)
refused_unmoved walk (set_mark mark) number e = sym (kept (sym e) _ walk)
refused_unmoved walk (go_back mark) number e = sym (kept (sym e) _ walk)

pub read_as_is : AsIsClaim
read_as_is walk g =
    let ok = accepted walk g in
    record {
      looked = λ l. sym (look_below walk ok l);
      drawn = λ bonder one room l. sym (pair_reply_lem walk bonder ok one l (λ e. omega arith));
      full = λ bonder one full l. sym (full_reply walk bonder ok one l full);
      look_spent = λ e. sym (look_end walk ok (omega arith));
      draw_spent = λ bonder one e. sym (end_reply walk bonder ok one (omega arith));
    }

-- the record that starting gives is sound
pub begun_sound : (n : ℕ) → 1 ≤ n → n ≤ 31 → Sound (begun n)
unfolding bad_record
begun_sound n low high = record {
  accepted = rw (inside 1 31 low high, le-ltb (list_length n) 0 (omega arith), le-ltb (list_length n + 1) 0 (omega arith));
  eight_marks = refl;
  eight_counts = refl;
  right = right_at n 0 _ _;
}

at_least_one : {many : ℕ} → (many ≡ 0 → ⊥) → 1 ≤ many
at_least_one {many} some = go (dec_lt 0 many)
  where
    go : Dec (0 < many) → 1 ≤ many
    go (yes l) = omega arith
    go (no l) = absurd (some (omega arith))

module _ (n : ℕ) (low : 1 ≤ n) (high : n ≤ 31) (calls : List Call) where
  abbrev w : Walk
  w = begun n

  abbrev sound : Sound w
  sound = begun_sound n low high

  -- before the first return no count is 10^18
  count_at : (k bonder : ℕ) → returns (take k (answers w calls)) ≡ 0 → count_before w calls k bonder < full_count
  count_at k bonder none =
      rw (take_answers w calls k) (rw (count w sound (take k calls) bonder) at
      (not_full n sound (take k calls) (rw (← take_answers w calls k) none) bonder))

  module _ (no_return : returns (answers w calls) ≡ 0) where
    none : (i : ℕ) → returns (take i (answers w calls)) ≡ 0
    none i = let l = take_many returned i (answers w calls) in omega arith

    place : (i : ℕ) → (past_at w calls i).place ≡ draws_before w calls i
    place i = place_at w sound calls 0 i (omega arith) (none i) ∙ zero-add (draws_before w calls i)

    drawn : (i bonder : ℕ) → i < length calls → call_at calls i ≡ draw bonder → bonder ≤ 7
        → answer w calls i ≡ entry_reply n (past_at w calls i).place
    drawn i bonder h e one = (decided w sound calls).shown i bonder h e one (count_at i bonder (none i))

    each : (i : ℕ) → i < length calls → Shows (call_at calls i) (answer w calls i)
        → answer w calls i ≡ entry_reply n (draws_before w calls i)
    each i h s =
        (runs_on w sound calls).answered 0 i (omega arith) h (none i) s ∙ ap (entry_reply n) (zero-add (draws_before w calls i))

    pub plain_calls : Plain n calls
    plain_calls =
        let left = (walked w sound calls).left in
        record {
          look_shows = λ i h e. rw ((decided w sound calls).looked i h e) (not_refused n (past_at w calls i).place);
          draw_shows = λ i bonder h e one. rw (drawn i bonder h e one) (not_refused n (past_at w calls i).place);
          no_bonder = λ i bonder h e l. (decided w sound calls).no_bonder i bonder h e l;
          pair = λ i h s l. each i h s ∙ rw (lt-ltb (draws_before w calls i) (list_length n) l);
          spent_at_end = λ i h s l. each i h s ∙ rw (le-ltb (draws_before w calls i) (list_length n) l);
          degree = ap (λ (r : Walk). r.degree) left;
          position =
              ap (λ (r : Walk). r.position) left
              ∙ ap (min (list_length n)) (place (length calls) ∙ ap draws (all w sound calls));
          counts = let sum_is_lem = (counted w sound calls).total in let at = moved_on_lem w sound calls no_return in omega arith;
        }

  pub fresh_calls : Fresh n calls
  fresh_calls = record {
    empty = λ k mark h e le unset. (comes_back w sound calls).empty k mark h e le (nothing_yet mark) unset;
    count = λ bonder. let e = nothing_yet bonder in let is = count w sound calls bonder in omega arith;
    total = let is = (counted w sound calls).total in omega arith;
  }

  not_21 : (i : ℕ) → returns (take i (answers w calls)) ≡ 0 → Refusing n (past_at w calls i) 21 → ⊥
  not_21 i none (by_number low high) = omega arith
  not_21 i none (by_count bonder e z) = let l = count_at i bonder none in let is = given_at w sound calls i bonder in omega arith

  pub full_calls : Full n calls
  full_calls = record {
    reached = λ bonder e. at_least_one (λ none. let l = not_full n sound calls none bonder in omega arith);
    before_21 = λ i h e.
        at_least_one (λ none. not_21 i none (refusing n (past_at w calls i) 21 (call_at calls i) (sym (each_call w sound calls i h) ∙ e)));
  }

pub plain : PlainClaim
plain n low high calls no_return = plain_calls n low high calls no_return

pub fresh : FreshClaim
fresh n low high calls = fresh_calls n low high calls

pub full : FullClaim
full n low high calls = full_calls n low high calls
