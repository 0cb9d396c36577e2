-- The reply to a draw, case by case, and the record after it.
use mathlib.Core.Bool.{true, false}
use mathlib.Core.List.{List, [], ◌∷◌}
use mathlib.Core.Path.{◌≡◌, sym, ◌∙◌}
use Prim.Native.Nat.{ℕ, ◌≤◌, ◌<◌}
use native.Mathlib.Decide.{dec_lt, ℕ_discrete}
use native.Mathlib.Omega.{arith}
use borrow.Author.Tests.{lt-ltb, le-ltb, eq-eqb, ne_eqb}
use lib.ListN.{get_or}
use Rattle.reply.specs.Reply.{Reply, served, refused, spent, unless}
use Rattle.reply.proofs.Order.{failed, kept}
use Rattle.poly.specs.Limits.{list_length}
use Rattle.euclid.specs.Chain.{Pair}
use Rattle.walk.specs.declared.Walk.{Walk}
use Rattle.walk.specs.Walks.{full_count, bad_record, record_cause, pair_or_spent, held, held_reply, bonder_cause, full_cause}
use Rattle.walk.specs.Walks.{draw_reply, moved_on, after_draw}
use Rattle.walk.specs.Claims.{NotRefused}
use Rattle.walk.proofs.Tests.{tested}

-- ---- at a place of the list, with so many pairs given to each bonder, and a pair to give
module _ (n place : ℕ) (given : List ℕ) (bonder : ℕ) (two : Pair) where
  abbrev pub drawn_at : Reply
  drawn_at = unless (bonder_cause bonder ∷ full_cause n place given bonder ∷ []) (pair_or_spent n place two)

  abbrev count : ℕ
  count = get_or given bonder 0

  pub draw_range : 7 < bonder → drawn_at ≡ refused 20
  draw_range l = rw (lt-ltb 7 bonder l)

  module _ (one : bonder ≤ 7) where
    pub draw_end : list_length n ≤ place → drawn_at ≡ spent
    draw_end l = rw (le-ltb 7 bonder one, le-ltb place (list_length n) l)

    module _ (l : place < list_length n) where
      pub draw_full : count ≡ full_count → drawn_at ≡ refused 21
      draw_full e = rw (le-ltb 7 bonder one, lt-ltb place (list_length n) l, eq-eqb count full_count e)

      pub draw_pair : (count ≡ full_count → ⊥) → drawn_at ≡ pair_or_spent n place two
      draw_pair ne = rw (le-ltb 7 bonder one, lt-ltb place (list_length n) l, ne_eqb count full_count ne)

  -- the four cases
  pub data Case : Type 0 where
    stranger : 7 < bonder → drawn_at ≡ refused 20 → Case
    ended : bonder ≤ 7 → list_length n ≤ place → drawn_at ≡ spent → Case
    full : count ≡ full_count → drawn_at ≡ refused 21 → Case
    pair : bonder ≤ 7 → place < list_length n → (count ≡ full_count → ⊥) → drawn_at ≡ pair_or_spent n place two → Case

  pub case : Case
  case = go (dec_lt 7 bonder) (dec_lt place (list_length n)) (ℕ_discrete count full_count)
    where
      go : Dec (7 < bonder) → Dec (place < list_length n) → Dec (count ≡ full_count) → Case
      go (yes b) d e = stranger b (draw_range b)
      go (no b) (no d) e = ended (omega arith) (omega arith) (draw_end (omega arith) (omega arith))
      go (no b) (yes d) (yes e) = full e (draw_full (omega arith) d e)
      go (no b) (yes d) (no e) = pair (omega arith) d e (draw_pair (omega arith) d e)

  -- for one of the eight bonders, whose count is not in the way
  pub draw_free : bonder ≤ 7 → (count ≡ full_count → ⊥) → drawn_at ≡ pair_or_spent n place two
  draw_free one room = go case
    where
      go : Case → drawn_at ≡ pair_or_spent n place two
      go (stranger b e) = absurd (omega arith)
      go (ended b l e) = e ∙ rw (le-ltb place (list_length n) l)
      go (full c e) = absurd (room c)
      go (pair b l ne e) = e

  -- a draw that is not refused shows the pair
  pub draw_shows : NotRefused drawn_at → drawn_at ≡ pair_or_spent n place two
  draw_shows shows = go case
    where
      go : Case → drawn_at ≡ pair_or_spent n place two
      go (stranger b e) = absurd (rw e at shows)
      go (ended b l e) = e ∙ rw (le-ltb place (list_length n) l)
      go (full c e) = absurd (rw e at shows)
      go (pair b l ne e) = e

  -- a draw that gives a pair is for one of the eight bonders, below the list's end, and its count is below the highest
  pub record Given : Type 0 where
    pub one : bonder ≤ 7
    pub below : place < list_length n
    pub room : count ≡ full_count → ⊥

  pub draw_given : {values : List ℕ} → drawn_at ≡ served values → Given
  draw_given {values} served_so = go case
    where
      go : Case → Given
      go (stranger b e) = absurd (let z = sym e ∙ served_so in let z : ◌≡◌ {A = ℕ} 0 1 = cc in omega arith)
      go (ended b l e) = absurd (let z = sym e ∙ served_so in let z : ◌≡◌ {A = ℕ} 0 1 = cc in omega arith)
      go (full c e) = absurd (let z = sym e ∙ served_so in let z : ◌≡◌ {A = ℕ} 0 1 = cc in omega arith)
      go (pair b l ne e) = record { one = b; below = l; room = ne }

-- ---- of a record
module _ (walk : Walk) (bonder : ℕ) where
  abbrev at : Reply
  at = drawn_at walk.degree walk.position walk.counts bonder (held walk)

  pub draw_bad : bad_record walk ≡ true → refused 3 ≡ draw_reply walk bonder
  unfolding draw_reply
  draw_bad e = rw e

  pub draw_good : bad_record walk ≡ false → draw_reply walk bonder ≡ at
  unfolding draw_reply
  draw_good e = rw e

  module _ (sound : bad_record walk ≡ false) (one : bonder ≤ 7) where
    pub end_reply : list_length walk.degree ≤ walk.position → spent ≡ draw_reply walk bonder
    end_reply l = sym (draw_good sound ∙ draw_end walk.degree walk.position walk.counts bonder (held walk) one l)

    module _ (l : walk.position < list_length walk.degree) where
      pub full_reply : get_or walk.counts bonder 0 ≡ full_count → refused 21 ≡ draw_reply walk bonder
      full_reply e = sym (draw_good sound ∙ draw_full walk.degree walk.position walk.counts bonder (held walk) one l e)

      pub pair_reply_lem : (get_or walk.counts bonder 0 ≡ full_count → ⊥) → served (walk.f ∷ walk.g ∷ []) ≡ draw_reply walk bonder
      pair_reply_lem ne =
          sym (draw_good sound ∙ draw_pair walk.degree walk.position walk.counts bonder (held walk) one l ne
          ∙ rw (lt-ltb walk.position (list_length walk.degree) l))

  pub draw_refused : {k : ℕ} → refused k ≡ tested walk bonder 20 → refused k ≡ draw_reply walk bonder
  unfolding draw_reply
  draw_refused e =
      failed (full_cause walk.degree walk.position walk.counts bonder ∷ []) (held_reply walk)
      (record_cause walk ∷ bonder_cause bonder ∷ []) e

  pub moves : {values : List ℕ} → served values ≡ draw_reply walk bonder → moved_on walk bonder ≡ after_draw walk bonder
  unfolding after_draw
  moves e = rw (← e)

  pub stays_spent : spent ≡ draw_reply walk bonder → walk ≡ after_draw walk bonder
  unfolding after_draw
  stays_spent e = rw (← e)

  pub stays_refused : {k : ℕ} → refused k ≡ draw_reply walk bonder → walk ≡ after_draw walk bonder
  unfolding after_draw
  stays_refused e = kept e _ walk
