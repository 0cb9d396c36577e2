-- Between returns the draws run on: the place counts them. And no two entries of the list are equal, so a pair that comes again has a
-- return before it.
use mathlib.Core.List.{List, [], ◌∷◌}
use mathlib.Core.Path.{◌≡◌, refl, sym, ap, ◌∙◌}
use Prim.Native.Nat.{ℕ, ◌+◌, ◌≤◌, ◌<◌}
use native.Mathlib.Decide.{dec_lt}
use native.Mathlib.Omega.{arith}
use borrow.Author.Tests.{lt-ltb, le-ltb}
use lib.ListN.{length, get_or, take, length-take}
use lib.Seq.{drop-cons, get_or-take}
use Rattle.reply.specs.Reply.{served}
use Rattle.poly.specs.Limits.{list_length}
use Rattle.pairs.specs.Pairs.{entry}
use Rattle.pairs.proofs.Standing.{list_complete, pair_answers, pair_given}
use Rattle.walk.specs.declared.Walk.{Walk}
use Rattle.walk.specs.Walks.{entry_reply}
use Rattle.walk.specs.Calls.{Call, look, draw, set_mark, go_back, Answered, answers, call_at, answer, between, draws, returns}
use Rattle.walk.specs.Past.{Past, past_of, expected, past_at}
use Rattle.walk.specs.Claims.{Sound, NotRefused, Shows, RunsOn, NoRepeat}
use Rattle.walk.proofs.Looks.{good}
use Rattle.walk.proofs.Draws.{draw_shows}
use Rattle.walk.proofs.Told.{told_between, place_on}
use Rattle.walk.proofs.Walking.{none, length_answers, call_there, each_call}

module _ (walk : Walk) (sound : Sound walk) (calls : List Call) where
  abbrev n : ℕ
  n = walk.degree

  pub place_at : (i k : ℕ) → i ≤ k → returns (between walk calls i k) ≡ 0
      → (past_at walk calls k).place ≡ (past_at walk calls i).place + draws (between walk calls i k)
  place_at i k h none =
      ap (λ (past : Past). past.place) (told_between n (past_of walk) (answers walk calls) i k h)
      ∙ place_on n (past_at walk calls i) (between walk calls i k) none

  pub answer_to : (i : ℕ) → i < length calls → (call : Call) → call_at calls i ≡ call
      → answer walk calls i ≡ expected n (past_at walk calls i) call
  answer_to i h call e = each_call walk sound calls i h ∙ ap (expected n (past_at walk calls i)) e

  drawn : (i : ℕ) → i < length calls → (bonder : ℕ) → call_at calls i ≡ draw bonder → NotRefused (answer walk calls i)
      → answer walk calls i ≡ entry_reply n (past_at walk calls i).place
  drawn i h bonder e not =
      let past = past_at walk calls i in
      let a = answer_to i h (draw bonder) e in
      a ∙ draw_shows n past.place past.given bonder (entry n past.place) (rw a at not)

  shown : (i : ℕ) → i < length calls → (call : Call) → call_at calls i ≡ call → Shows call (answer walk calls i)
      → answer walk calls i ≡ entry_reply n (past_at walk calls i).place
  shown i h look e s = answer_to i h look e
  shown i h (draw bonder) e s = drawn i h bonder e s
  shown i h (set_mark mark) e s = absurd s
  shown i h (go_back mark) e s = absurd s

  pub runs_on : RunsOn walk calls
  runs_on = record {
    place = place_at;
    answered = λ i k h below none s.
        shown k below (call_at calls k) refl s ∙ ap (entry_reply n) (place_at i k h none);
  }

  -- ---- two draws that give the same pair
  low : 1 ≤ n
  low = (good walk sound.accepted).degree_low

  high : n ≤ 31
  high = (good walk sound.accepted).degree_high

  given_below : (c f g : ℕ) → entry_reply n c ≡ served (f ∷ g ∷ []) → (c < list_length n) × (entry n c ≡ record { f = f; g = g })
  given_below c f g e = go (dec_lt c (list_length n))
    where
      go : Dec (c < list_length n) → (c < list_length n) × (entry n c ≡ record { f = f; g = g })
      go (yes l) =
          pair_given n low high c f g (pair_answers n low high c l ∙ rw (lt-ltb c (list_length n) l) at e)
      go (no l) = absurd (let r = rw (le-ltb c (list_length n) (omega arith)) at e in let z : ◌≡◌ {A = ℕ} 0 1 = cc in omega arith)

  -- no two entries are equal
  one_entry : (a b : ℕ) → a < list_length n → b < list_length n → entry n a ≡ entry n b → a ≡ b
  one_entry a b ha hb e =
      let list = list_complete n low in
      let s = list.once (entry n b) (list.coprime b (rw list.long hb)) in
      s.only a (rw list.long ha) e ∙ sym (s.only b (rw list.long hb) refl)

  -- a draw that gives a pair counts among the draws from it on
  counted : (i k bonder : ℕ) → i < k → k < length calls → call_at calls i ≡ draw bonder → (values : List ℕ)
      → answer walk calls i ≡ served values → 1 ≤ draws (between walk calls i k)
  counted i k bonder h below d values e =
      let l : List Answered = answers walk calls in
      let long = length_answers walk calls in
      let inside : i < length (take k l) = rw (length-take k l) (omega arith) in
      let there : get_or (take k l) i none ≡ get_or l i none = get_or-take k l i none h in
      rw (drop-cons (take k l) i none inside, there, call_there walk calls i (omega arith), d, e) (omega arith)

  pub no_repeat : NoRepeat walk calls
  no_repeat i k a b h below di dk f g ei ek = go (dec_lt 0 (returns (between walk calls i k)))
    where
      go : Dec (0 < returns (between walk calls i k)) → 1 ≤ returns (between walk calls i k)
      go (yes l) = omega arith
      go (no l) =
          let first = given_below (past_at walk calls i).place f g (sym (drawn i (omega arith) a di (rw ei tt)) ∙ ei) in
          let second = given_below (past_at walk calls k).place f g (sym (drawn k below b dk (rw ek tt)) ∙ ek) in
          let same = one_entry _ _ first.0 second.0 (first.1 ∙ sym second.1) in
          let on = place_at i k (omega arith) (omega arith) in
          let one = counted i k a h below di (f ∷ g ∷ []) ei in
          absurd (omega arith)
