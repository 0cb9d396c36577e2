-- Call by call, the record is the one that the past says, so the answer is the past's too: induction over the list of calls, from any past
-- whose record is sound.
use mathlib.Core.Bool.{Bool, true, false}
use mathlib.Core.List.{List, [], ◌∷◌}
use mathlib.Core.Path.{◌≡◌, refl, sym, ap, subst, ◌∙◌}
use Prim.Native.Nat.{ℕ, zero, suc, ◌+◌, ◌-◌, ◌≤◌, ◌<◌, min}
use native.Mathlib.Nat.{add-zero, min-eq_right, le_refl, le_of_lt}
use native.Mathlib.Decide.{dec_lt}
use native.Mathlib.Omega.{arith}
use borrow.Author.Tests.{lt-ltb, le-ltb}
use lib.Dec.{ltb, eqb}
use lib.ListN.{length, get_or, take}
use lib.Seq.{take_all}
use Rattle.reply.specs.Reply.{Reply, served, refused, spent, ◌gives◌, unless, after}
use Rattle.reply.proofs.Order.{sole_refused}
use Rattle.poly.specs.Limits.{list_length}
use Rattle.pairs.specs.Pairs.{entry}
use Rattle.walk.specs.declared.Walk.{Walk}
use Rattle.walk.specs.Walks.{next_pair, walk_at, full_count, pair_or_spent, entry_reply, bonder_cause, full_cause, one_more}
use Rattle.walk.specs.Walks.{look_reply, draw_reply, after_draw, set_mark_reply, after_set_mark, go_back_reply, after_go_back}
use Rattle.walk.specs.Calls.{Call, look, draw, set_mark, go_back, Answered, reply_to, record_after, answers, last, call_at, answer}
use Rattle.walk.specs.Past.{Past, past_of, told, all_told, expected, record_of, past_at}
use Rattle.walk.specs.Claims.{Sound, Walked, NotRefused}
use Rattle.walk.proofs.Looks.{good}
use Rattle.walk.proofs.Keeping.{shows_entry, holding, right_next}
use Rattle.walk.proofs.Draws.{drawn_at, Case, stranger, ended, full, pair, case}
use Rattle.walk.proofs.Soundness.{next_sound, last_sound}

abbrev pub none : Answered
none = record { call = look; reply = refused 0 }

module _ (n : ℕ) where
  abbrev L : ℕ
  L = list_length n

  -- the list's end and whatever is behind it are alike: the entry is spent, and no count stands in the way
  at_place : (reply : ℕ → Reply) → ((c : ℕ) → L ≤ c → reply c ≡ reply L) → (c : ℕ) → reply (min L c) ≡ reply c
  at_place reply same c = go (dec_lt c L)
    where
      go : Dec (c < L) → reply (min L c) ≡ reply c
      go (yes l) = ap reply (min-eq_right (le_of_lt l))
      go (no l) = let e : min L c ≡ L = omega arith in ap reply e ∙ sym (same c (omega arith))

  look_at : (c : ℕ) → pair_or_spent n (min L c) (next_pair n (min L c)) ≡ entry_reply n c
  look_at c = shows_entry n (min L c) ∙ at_place (entry_reply n) (λ c l. rw (le-ltb c L l, le-ltb L L (le_refl L))) c

  draw_at : (given : List ℕ) (bonder c : ℕ)
      → drawn_at n (min L c) given bonder (next_pair n (min L c)) ≡ drawn_at n c given bonder (entry n c)
  draw_at given bonder c =
      ap (unless (bonder_cause bonder ∷ full_cause n (min L c) given bonder ∷ [])) (shows_entry n (min L c))
      ∙ at_place (λ (c : ℕ). drawn_at n c given bonder (entry n c)) (λ c l. rw (le-ltb c L l, le-ltb L L (le_refl L))) c

  -- ---- one call
  reply_of : (call : Call) (past : Past) → Sound (record_of n past) → reply_to call (record_of n past) ≡ expected n past call
  unfolding look_reply draw_reply set_mark_reply go_back_reply
  reply_of look past sound = rw sound.accepted (look_at past.place)
  reply_of (draw bonder) past sound = rw sound.accepted (draw_at past.given bonder past.place)
  reply_of (set_mark mark) past sound = rw sound.accepted
  reply_of (go_back mark) past sound = rw sound.accepted

  after_of : (reply : Reply) (new old : Past) → after reply (record_of n new) (record_of n old) ≡ record_of n (after reply new old)
  after_of (served values) new old = refl
  after_of (refused number) new old = refl
  after_of spent new old = refl

  abbrev at : Past → List ℕ → ℕ → Walk
  at past counts position = walk_at n position past.marks counts

  draw_of : (past : Past) (bonder : ℕ)
      → after (expected n past (draw bonder)) (at past (one_more past.given bonder) (min L past.place + 1)) (record_of n past)
      ≡ record_of n (told n (draw bonder) (expected n past (draw bonder)) past)
  draw_of past bonder = go (case n past.place past.given bonder (entry n past.place))
    where
      place : ℕ
      place = past.place

      stays : at past past.given (min L place) ≡ at past past.given (min L (place + 0))
      stays = ap (λ (v : ℕ). at past past.given (min L v)) (sym (add-zero place))

      go : Case n past.place past.given bonder (entry n past.place)
          → after (expected n past (draw bonder)) (at past (one_more past.given bonder) (min L past.place + 1)) (record_of n past)
          ≡ record_of n (told n (draw bonder) (expected n past (draw bonder)) past)
      go (stranger b e) = rw e stays
      go (full c e) = rw e stays
      go (ended b l e) =
          let same : min L past.place ≡ min L (past.place + 1) = omega arith in
          rw e (ap (at past past.given) same)
      go (pair b l ne e) =
          let next : min L past.place + 1 ≡ min L (past.place + 1) = omega arith in
          rw (e, lt-ltb past.place L l) (ap (at past (one_more past.given bonder)) next)

  next_of : (call : Call) (past : Past) → Sound (record_of n past)
      → record_after call (record_of n past) ≡ record_of n (told n call (expected n past call) past)
  unfolding after_draw after_set_mark after_go_back
  next_of look past sound = refl
  next_of (draw bonder) past sound = rw (reply_of (draw bonder) past sound) (draw_of past bonder)
  next_of (set_mark mark) past sound = rw (reply_of (set_mark mark) past sound) (after_of (expected n past (set_mark mark)) _ past)
  next_of (go_back mark) past sound =
      let l = (good (record_of n past) sound.accepted).marks mark in
      let e : get_or past.marks mark 0 - 1 ≡ min L (get_or past.marks mark 0 - 1) = omega arith in
      rw (reply_of (go_back mark) past sound)
      (ap (λ (v : ℕ). after (expected n past (go_back mark)) (at past past.given v) (record_of n past)) e
      ∙ after_of (expected n past (go_back mark)) _ past)

  sound_of : (call : Call) (past : Past) → Sound (record_of n past) → Sound (record_of n (told n call (expected n past call) past))
  sound_of call past sound = subst Sound (next_of call past sound) (next_sound (record_of n past) sound call)

  -- ---- the list of calls
  each_from : (calls : List Call) (past : Past) → Sound (record_of n past) → (i : ℕ) → i < length calls
      → (get_or (answers (record_of n past) calls) i none).reply
      ≡ expected n (all_told n past (take i (answers (record_of n past) calls))) (call_at calls i)
  each_from [] past sound i h = absurd (omega arith)
  each_from (call ∷ calls) past sound zero h = reply_of call past sound
  each_from (call ∷ calls) past sound (suc i) h =
      rw (next_of call past sound, reply_of call past sound)
      (each_from calls (told n call (expected n past call) past) (sound_of call past sound) i (omega arith))

  last_from : (calls : List Call) (past : Past) → Sound (record_of n past)
      → last (record_of n past) calls ≡ record_of n (all_told n past (answers (record_of n past) calls))
  last_from [] past sound = refl
  last_from (call ∷ calls) past sound =
      rw (next_of call past sound, reply_of call past sound)
      (last_from calls (told n call (expected n past call) past) (sound_of call past sound))

-- an entry is no refusal
pub not_refused : (n c : ℕ) → NotRefused (entry_reply n c)
not_refused n c = go (dec_lt c (list_length n))
  where
    go : Dec (c < list_length n) → NotRefused (entry_reply n c)
    go (yes l) = rw (lt-ltb c (list_length n) l) tt
    go (no l) = rw (le-ltb c (list_length n) (omega arith)) tt

-- what a past refuses: the number of a mark or a bonder, or an empty mark; or, by 21, a draw for a bonder whose count is the highest
module _ (n : ℕ) (past : Past) where
  pub data Refusing (k : ℕ) : Type 0 where
    by_number : 18 ≤ k → k ≤ 20 → Refusing k
    by_count : (bonder : ℕ) → get_or past.given bonder 0 ≡ full_count → k ≡ 21 → Refusing k

  pub refusing : (k : ℕ) (call : Call) → expected n past call ≡ refused k → Refusing k
  refusing k look e = absurd (rw e at (not_refused n past.place))
  refusing k (draw bonder) e = go (case n past.place past.given bonder (entry n past.place))
    where
      go : Case n past.place past.given bonder (entry n past.place) → Refusing k
      go (stranger b e') = let z = sym e' ∙ e in let z : 20 ≡ k = cc in by_number (omega arith) (omega arith)
      go (full c e') = let z = sym e' ∙ e in let z : k ≡ 21 = cc in by_count bonder c z
      go (ended b l e') = absurd (let z = sym e' ∙ e in let z : ◌≡◌ {A = ℕ} 0 1 = cc in omega arith)
      go (pair b l ne e') = absurd (rw (sym e' ∙ e) at (not_refused n past.place))
  refusing k (set_mark mark) e = let z = (sole_refused (ltb 7 mark) 18 [] (sym e)).1 in by_number (omega arith) (omega arith)
  refusing k (go_back mark) e = go (ltb 7 mark) (eqb (get_or past.marks mark 0) 0) e
    where
      go : (b c : Bool) → unless (b gives 18 ∷ c gives 19 ∷ []) (served []) ≡ refused k → Refusing k
      go true c e = let z : 18 ≡ k = cc in by_number (omega arith) (omega arith)
      go false true e = let z : 19 ≡ k = cc in by_number (omega arith) (omega arith)
      go false false e = absurd (let z : ◌≡◌ {A = ℕ} 0 1 = cc in omega arith)

-- no answer that a past says is number 3
not_3 : {n : ℕ} {past : Past} → Refusing n past 3 → ⊥
not_3 (by_number low high) = omega arith
not_3 (by_count bonder e z) = omega arith

pub length_answers : (walk : Walk) (calls : List Call) → length (answers walk calls) ≡ length calls
length_answers walk [] = refl
length_answers walk (call ∷ calls) = ap suc (length_answers (record_after call walk) calls)

pub call_there : (walk : Walk) (calls : List Call) (i : ℕ) → i < length calls → (get_or (answers walk calls) i none).call ≡ call_at calls i
call_there walk [] i h = absurd (omega arith)
call_there walk (call ∷ calls) zero h = refl
call_there walk (call ∷ calls) (suc i) h = call_there (record_after call walk) calls i (omega arith)

pub take_answers : (walk : Walk) (calls : List Call) (i : ℕ) → take i (answers walk calls) ≡ answers walk (take i calls)
take_answers walk calls zero = refl
take_answers walk [] (suc i) = refl
take_answers walk (call ∷ calls) (suc i) =
    ap (◌∷◌ (record { call = call; reply = reply_to call walk })) (take_answers (record_after call walk) calls i)

module _ (walk : Walk) (sound : Sound walk) where
  abbrev n : ℕ
  n = walk.degree

  -- a sound record is the one that its own past says
  here : record_of n (past_of walk) ≡ walk
  here =
      ap (λ (v : ℕ). walk_at n v walk.marks walk.counts) (min-eq_right (good walk sound.accepted).position)
      ∙ sym (holding n walk.position walk.marks walk.counts (sym (right_next walk sound.right)))

  abbrev sound_here : Sound (record_of n (past_of walk))
  sound_here = subst Sound (sym here) sound

  last_call : (calls : List Call) → last walk calls ≡ record_of n (all_told n (past_of walk) (answers walk calls))
  last_call calls =
      subst (λ (w : Walk). last w calls ≡ record_of n (all_told n (past_of walk) (answers w calls))) here
      (last_from n calls (past_of walk) sound_here)

  module _ (calls : List Call) where
    pub each_call : (i : ℕ) → i < length calls → answer walk calls i ≡ expected n (past_at walk calls i) (call_at calls i)
    each_call i h =
        subst (λ (w : Walk). answer w calls i ≡ expected n (all_told n (past_of walk) (take i (answers w calls))) (call_at calls i)) here
        (each_from n calls (past_of walk) sound_here i h)

    -- the record before call i
    pub record_at : (i : ℕ) → last walk (take i calls) ≡ record_of n (past_at walk calls i)
    record_at i =
        last_call (take i calls) ∙ ap (λ (l : List Answered). record_of n (all_told n (past_of walk) l)) (sym (take_answers walk calls i))

    pub all : take (length calls) (answers walk calls) ≡ answers walk calls
    all = take_all (length calls) (answers walk calls) (rw (length_answers walk calls) (le_refl (length calls)))

    pub walked : Walked walk calls
    walked = record {
      answered = each_call;
      never_3 = λ i h e. not_3 (refusing n (past_at walk calls i) 3 (call_at calls i) (sym (each_call i h) ∙ e));
      sound = last_sound walk sound calls;
      left = last_call calls ∙ ap (λ (l : List Answered). record_of n (all_told n (past_of walk) l)) (sym all);
    }
