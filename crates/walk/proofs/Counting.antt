-- Each call adds to a count what it gave to that bonder, to the sum of the counts what it gave to any, and, if it is no return, as much to
-- the position: so it is for a list of calls, by induction. The position is never past the list's end, and no list is so long that a count
-- gets to the highest before a return.
use mathlib.Core.Bool.{Bool, true, false, cond}
use mathlib.Core.List.{List, [], ◌∷◌, ◌++◌}
use mathlib.Core.Path.{◌≡◌, refl, sym, ap, ◌∙◌}
use Prim.Native.Nat.{ℕ, zero, suc, ◌+◌, ◌≤◌, ◌<◌}
use native.Mathlib.Nat.{add-zero, add_assoc}
use native.Mathlib.Decide.{ℕ_discrete}
use native.Mathlib.Omega.{arith}
use borrow.Author.Tests.{eq-eqb, ne_eqb}
use lib.Dec.{eqb}
use lib.ListN.{length, get_or, replicate}
use lib.Seq.{get_or-set_same, get_or-set_other}
use Rattle.reply.specs.Reply.{Reply, served, refused, spent, after}
use Rattle.poly.proofs.Ranges.{list_length_lt}
use Rattle.pairs.specs.Counts.{sum}
use Rattle.walk.specs.declared.Walk.{Walk}
use Rattle.walk.specs.Walks.{begun, full_count, held, one_more, draw_reply, moved_on, after_draw, set_mark_reply, after_set_mark}
use Rattle.walk.specs.Walks.{go_back_reply, after_go_back}
use Rattle.walk.specs.Calls.{Call, look, draw, set_mark, go_back, Answered, reply_to, record_after, answers, last, how_many}
use Rattle.walk.specs.Calls.{returned, returns, given_to, gave}
use Rattle.walk.specs.Claims.{Sound, Counted}
use Rattle.walk.proofs.Above.{not_above_lem}
use Rattle.walk.proofs.Looks.{good}
use Rattle.walk.proofs.Draws.{draw_good, draw_given}
use Rattle.walk.proofs.Soundness.{next_sound, last_sound}

-- ---- one more in a list of counts
count_more : (counts : List ℕ) (bonder other : ℕ) → other < length counts
    → get_or (one_more counts other) bonder 0 ≡ get_or counts bonder 0 + cond (eqb bonder other) 1 0
count_more counts bonder other h = go (ℕ_discrete bonder other)
  where
    go : Dec (bonder ≡ other) → get_or (one_more counts other) bonder 0 ≡ get_or counts bonder 0 + cond (eqb bonder other) 1 0
    go (yes e) = rw (eq-eqb bonder other e, e) (get_or-set_same counts other _ 0 h)
    go (no ne) = rw (ne_eqb bonder other ne) (get_or-set_other counts other bonder _ 0 ne ∙ sym (add-zero (get_or counts bonder 0)))

sum_more : (counts : List ℕ) (bonder : ℕ) → bonder < length counts → sum (one_more counts bonder) ≡ sum counts + 1
sum_more [] bonder h = absurd (omega arith)
sum_more (first ∷ rest) zero h = omega arith
sum_more (first ∷ rest) (suc bonder) h = let ih = sum_more rest bonder (omega arith) in omega arith

-- ---- one call
same : (measure : Walk → ℕ) (reply : Reply) {new old : Walk} → measure new ≡ measure old → measure (after reply new old) ≡ measure old + 0
same measure (served values) {new} {old} e = e ∙ sym (add-zero (measure old))
same measure (refused number) {new} {old} e = sym (add-zero (measure old))
same measure spent {new} {old} e = sym (add-zero (measure old))

-- what draws add to a measure of the record; they are of a kind only if they give a pair
module _ (measure : Walk → ℕ) (kind : Call → Reply → ℕ)
    (none : (bonder : ℕ) → kind (draw bonder) spent ≡ 0) (nothing : (bonder number : ℕ) → kind (draw bonder) (refused number) ≡ 0) where
  abbrev Adds : Type 0
  Adds =
      (walk : Walk) → Sound walk → (bonder : ℕ) → bonder ≤ 7 → (values : List ℕ)
      → measure (moved_on walk bonder) ≡ measure walk + kind (draw bonder) (served values)

  draw_adds : Adds → (walk : Walk) → Sound walk → (bonder : ℕ)
      → measure (after_draw walk bonder) ≡ measure walk + kind (draw bonder) (draw_reply walk bonder)
  unfolding after_draw
  draw_adds adds walk sound bonder = go (draw_reply walk bonder) refl
    where
      go : (reply : Reply) → draw_reply walk bonder ≡ reply
          → measure (after reply (moved_on walk bonder) walk) ≡ measure walk + kind (draw bonder) reply
      go (served values) e =
          let given = draw_given walk.degree walk.position walk.counts bonder (held walk)
          (sym (draw_good walk bonder sound.accepted) ∙ e) in
          adds walk sound bonder given.one values
      go (refused number) e = rw (nothing bonder number) (sym (add-zero (measure walk)))
      go spent e = rw (none bonder) (sym (add-zero (measure walk)))

abbrev count_of : ℕ → Walk → ℕ
count_of bonder walk = get_or walk.counts bonder 0

abbrev sum_of : Walk → ℕ
sum_of walk = sum walk.counts

one_count : (bonder : ℕ) (walk : Walk) → Sound walk → (call : Call)
    → count_of bonder (record_after call walk) ≡ count_of bonder walk + given_to bonder call (reply_to call walk)
unfolding after_set_mark after_go_back
one_count bonder walk sound look = sym (add-zero (count_of bonder walk))
one_count bonder walk sound (draw other) =
    draw_adds (count_of bonder) (given_to bonder) (λ other. refl) (λ other number. refl)
    (λ w s other one values. count_more w.counts bonder other (rw s.eight_counts (omega arith))) walk sound other
one_count bonder walk sound (set_mark mark) = same (count_of bonder) (set_mark_reply walk mark) refl
one_count bonder walk sound (go_back mark) = same (count_of bonder) (go_back_reply walk mark) refl

one_sum : (walk : Walk) → Sound walk → (call : Call) → sum_of (record_after call walk) ≡ sum_of walk + gave call (reply_to call walk)
unfolding after_set_mark after_go_back
one_sum walk sound look = sym (add-zero (sum_of walk))
one_sum walk sound (draw bonder) =
    draw_adds sum_of gave (λ other. refl) (λ other number. refl)
    (λ w s other one values. sum_more w.counts other (rw s.eight_counts (omega arith))) walk sound bonder
one_sum walk sound (set_mark mark) = same sum_of (set_mark_reply walk mark) refl
one_sum walk sound (go_back mark) = same sum_of (go_back_reply walk mark) refl

one_position : (walk : Walk) → Sound walk → (call : Call) → returned call (reply_to call walk) ≡ 0
    → (record_after call walk).position ≡ walk.position + gave call (reply_to call walk)
unfolding after_set_mark after_go_back
one_position walk sound look e = sym (add-zero walk.position)
one_position walk sound (draw bonder) e =
    draw_adds (λ (w : Walk). w.position) gave (λ other. refl) (λ other number. refl) (λ w s other one values. refl) walk sound bonder
one_position walk sound (set_mark mark) e = same (λ (w : Walk). w.position) (set_mark_reply walk mark) refl
one_position walk sound (go_back mark) e = go (go_back_reply walk mark) _ e
  where
    go : (reply : Reply) (new : Walk) → returned (go_back mark) reply ≡ 0 → (after reply new walk).position ≡ walk.position + 0
    go (served values) new e = absurd (omega arith)
    go (refused number) new e = sym (add-zero walk.position)
    go spent new e = sym (add-zero walk.position)

-- ---- a list of calls, none of which is of the kind `bars`
module _ (measure : Walk → ℕ) (kind bars : Call → Reply → ℕ)
    (one : (walk : Walk) → Sound walk → (call : Call) → bars call (reply_to call walk) ≡ 0
    → measure (record_after call walk) ≡ measure walk + kind call (reply_to call walk)) where
  adds_up : (walk : Walk) → Sound walk → (calls : List Call) → how_many bars (answers walk calls) ≡ 0
      → measure (last walk calls) ≡ measure walk + how_many kind (answers walk calls)
  adds_up walk sound [] e = sym (add-zero (measure walk))
  adds_up walk sound (call ∷ calls) e =
      let here : bars call (reply_to call walk) ≡ 0 = omega arith in
      adds_up (record_after call walk) (next_sound walk sound call) calls (omega arith)
      ∙ ap (λ (v : ℕ). v + how_many kind (answers (record_after call walk) calls)) (one walk sound call here)
      ∙ add_assoc (measure walk) (kind call (reply_to call walk)) (how_many kind (answers (record_after call walk) calls))

abbrev never : Call → Reply → ℕ
never call reply = 0

none_ever : (l : List Answered) → how_many never l ≡ 0
none_ever [] = refl
none_ever (first ∷ rest) = let ih = none_ever rest in omega arith

last_append : (walk : Walk) (calls more : List Call) → last walk (calls ++ more) ≡ last (last walk calls) more
last_append walk [] more = refl
last_append walk (call ∷ calls) more = last_append (record_after call walk) calls more

module _ (walk : Walk) (sound : Sound walk) (calls : List Call) where
  pub count : (bonder : ℕ) → count_of bonder (last walk calls) ≡ count_of bonder walk + how_many (given_to bonder) (answers walk calls)
  count bonder =
      adds_up (count_of bonder) (given_to bonder) never (λ w s call e. one_count bonder w s call) walk sound calls
      (none_ever (answers walk calls))

module _ (walk : Walk) (sound : Sound walk) (calls : List Call) where
  pub counted : Counted walk calls
  counted = record {
    count = count walk sound calls;
    total = adds_up sum_of gave never (λ w s call e. one_sum w s call) walk sound calls (none_ever (answers walk calls));
    never_falls = λ more bonder.
        rw (last_append walk calls more, count (last walk calls) (last_sound walk sound calls) more bonder) (omega arith);
  }

  -- with no return, the position moves on by one with each pair that is given
  pub moved_on_lem : returns (answers walk calls) ≡ 0 → (last walk calls).position ≡ walk.position + how_many gave (answers walk calls)
  moved_on_lem none = adds_up (λ (w : Walk). w.position) gave returned one_position walk sound calls none

-- what is given to one bonder is given
part_of : (bonder : ℕ) (l : List Answered) → how_many (given_to bonder) l ≤ how_many gave l
part_of bonder [] = omega arith
part_of bonder (first ∷ rest) =
    let ih = part_of bonder rest in let here = one first.call first.reply in omega arith
  where
    chosen : (b : Bool) → cond b 1 0 ≤ 1
    chosen true = omega arith
    chosen false = omega arith

    one : (call : Call) (reply : Reply) → given_to bonder call reply ≤ gave call reply
    one look reply = omega arith
    one (draw other) (served values) = chosen (eqb bonder other)
    one (draw other) (refused number) = omega arith
    one (draw other) spent = omega arith
    one (set_mark mark) reply = omega arith
    one (go_back mark) reply = omega arith

-- at the start no mark is set, and nothing was given
pub nothing_yet : (i : ℕ) → ◌≡◌ {A = ℕ} (get_or (replicate 8 0) i 0) 0
nothing_yet i = let l = not_above_lem 0 (replicate 8 0) refl i in omega arith

-- a count that is not above the position is not above it up to the next return
pub count_le : (walk : Walk) → Sound walk → (calls : List Call) → returns (answers walk calls) ≡ 0 → (bonder : ℕ)
    → count_of bonder walk ≤ walk.position → count_of bonder (last walk calls) ≤ (last walk calls).position
count_le walk sound calls none bonder low =
    let part = part_of bonder (answers walk calls) in
    let is = count walk sound calls bonder in
    let at = moved_on_lem walk sound calls none in
    omega arith

-- so it is below the highest, since the position is not past the list's end
pub below_full : (walk : Walk) → Sound walk → (bonder : ℕ) → count_of bonder walk ≤ walk.position → count_of bonder walk < full_count
below_full walk sound bonder low =
    let g = good walk sound.accepted in
    let end = g.position in
    omega (arith, list_length_lt walk.degree g.degree_high)

-- from the start, it is so up to the first return
pub not_full : (n : ℕ) → Sound (begun n) → (calls : List Call) → returns (answers (begun n) calls) ≡ 0
    → (bonder : ℕ) → count_of bonder (last (begun n) calls) < full_count
not_full n sound calls none bonder =
    let first = nothing_yet bonder in
    below_full (last (begun n) calls) (last_sound (begun n) sound calls) bonder
    (count_le (begun n) sound calls none bonder (omega arith))
