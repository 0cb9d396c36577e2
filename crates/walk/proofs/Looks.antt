-- What the test of a record shows of it, and the reply to a look that follows, case by case.
use mathlib.Core.Bool.{true, false, ◌||◌}
use mathlib.Core.List.{[], ◌∷◌}
use mathlib.Core.Path.{◌≡◌, ◌∙◌}
use Prim.Native.Nat.{ℕ, ◌+◌, ◌^◌, ◌≤◌, ◌<◌}
use native.Mathlib.Omega.{arith}
use borrow.Author.Tests.{lt-ltb, le-ltb, ltb-false}
use lib.Dec.{ltb}
use Rattle.reply.specs.Reply.{served, refused, spent, unless}
use Rattle.reply.proofs.Order.{failed}
use Rattle.poly.specs.Limits.{outside, list_length}
use Rattle.poly.proofs.Ranges.{inside, within, neither, list_length_lt}
use Rattle.walk.specs.declared.Walk.{Walk}
use Rattle.walk.specs.Walks.{any_above, full_count, bad_record, record_cause, held_reply, look_reply}
use Rattle.walk.specs.Claims.{Good}
use Rattle.walk.proofs.Above.{not_above_lem, none_above}

module _ (walk : Walk) where
  abbrev n : ℕ
  n = walk.degree

  abbrev position : ℕ
  position = walk.position

  -- ---- what makes a record bad or good
  pub bad_degree : outside 1 31 n ≡ true → bad_record walk ≡ true
  unfolding bad_record
  bad_degree e = rw e

  module _ (degree : outside 1 31 n ≡ false) where
    pub bad_position : list_length n < position → bad_record walk ≡ true
    unfolding bad_record
    bad_position l = rw (degree, lt-ltb (list_length n) position l)

    module _ (l : position ≤ list_length n) where
      pub by_numbers : bad_record walk ≡ (any_above (list_length n + 1) walk.marks || any_above full_count walk.counts)
      unfolding bad_record
      by_numbers = rw (degree, le-ltb (list_length n) position l)

  pub accepted : Good walk → bad_record walk ≡ false
  accepted g =
      by_numbers (inside 1 31 g.degree_low g.degree_high) g.position
      ∙ rw (none_above (list_length n + 1) walk.marks g.marks) (none_above full_count walk.counts g.counts)

  module _ (sound : bad_record walk ≡ false) where
    pub good : Good walk
    unfolding bad_record
    good =
        let marks = any_above (list_length n + 1) walk.marks in
        let (three, counts) =
        neither (outside 1 31 n || ltb (list_length n) position || marks) (any_above full_count walk.counts) sound in
        let (both, marks) = neither (outside 1 31 n || ltb (list_length n) position) marks three in
        let (degree, at) = neither (outside 1 31 n) (ltb (list_length n) position) both in
        let (low, high) = within 1 31 degree in
        record {
          degree_low = low;
          degree_high = high;
          position = ltb-false (list_length n) position at;
          marks = not_above_lem (list_length n + 1) walk.marks marks;
          counts = not_above_lem full_count walk.counts counts;
        }

    -- the next position is a number of 64 bits
    pub next_fits : position + 1 < 2 ^ 64
    next_fits =
        let l = good.position in
        omega (arith, list_length_lt n good.degree_high)

    -- ---- what a look shows
    pub look_below : position < list_length n → served (walk.f ∷ walk.g ∷ []) ≡ look_reply walk
    unfolding look_reply
    look_below l = rw (sound, lt-ltb position (list_length n) l)

    pub look_end : list_length n ≤ position → spent ≡ look_reply walk
    unfolding look_reply
    look_end l = rw (sound, le-ltb position (list_length n) l)

  pub look_refused : {k : ℕ} → refused k ≡ unless (record_cause walk ∷ []) (served []) → refused k ≡ look_reply walk
  unfolding look_reply
  look_refused e = failed [] (held_reply walk) (record_cause walk ∷ []) e

  pub bad_look : bad_record walk ≡ true → refused 3 ≡ look_reply walk
  unfolding look_reply
  bad_look e = rw e
