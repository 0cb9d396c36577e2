-- The next pair at a position is what the pair call answers there. A record with it is right, and a record that is right has it; the calls
-- that move a walk leave one.
use mathlib.Core.List.{List, [], ◌∷◌}
use mathlib.Core.Path.{◌≡◌, refl, sym, ap, ◌∙◌}
use Prim.Native.Nat.{ℕ, zero, suc, ◌+◌, ◌-◌, ◌≤◌, ◌<◌}
use native.Mathlib.Decide.{dec_lt}
use native.Mathlib.Omega.{arith}
use borrow.Author.Tests.{lt-ltb, le-ltb}
use lib.Dec.{leb}
use lib.ListN.{get_or}
use Rattle.reply.specs.Reply.{Reply, served, refused, spent, ◌gives◌, after}
use Rattle.reply.proofs.Order.{none_applies}
use Rattle.poly.specs.Limits.{list_length}
use Rattle.poly.specs.Causes.{degree_cause}
use Rattle.poly.proofs.Ranges.{within}
use Rattle.euclid.specs.Chain.{Pair}
use Rattle.pairs.specs.Pairs.{entry}
use Rattle.pairs.specs.Replies.{pair_at_reply}
use Rattle.pairs.proofs.Standing.{pair_answers, pair_given}
use Rattle.walk.specs.declared.Walk.{Walk}
use Rattle.walk.specs.Walks.{next_pair, walk_at, pair_or_spent, entry_reply, held, draw_reply, after_draw, set_mark_reply, after_set_mark}
use Rattle.walk.specs.Walks.{go_back_reply, after_go_back}
use Rattle.walk.specs.Calls.{look, draw, set_mark, go_back, moved}
use Rattle.walk.specs.Claims.{PairRight, SetsRightClaim}

module _ (n position : ℕ) where
  pub next_below : position < list_length n → next_pair n position ≡ entry n position
  unfolding next_pair
  next_below l = rw (lt-ltb position (list_length n) l)

  pub next_end : list_length n ≤ position → next_pair n position ≡ record { f = 0; g = 0 }
  unfolding next_pair
  next_end l = rw (le-ltb position (list_length n) l)

  -- what is shown of it is the entry, or spent
  pub shows_entry : pair_or_spent n position (next_pair n position) ≡ entry_reply n position
  shows_entry = go (dec_lt position (list_length n))
    where
      go : Dec (position < list_length n) → pair_or_spent n position (next_pair n position) ≡ entry_reply n position
      go (yes l) = ap (pair_or_spent n position) (next_below l)
      go (no l) = rw (le-ltb position (list_length n) (omega arith))

  -- ---- by the reply of the pair call
  pub next_found : (f g : ℕ) → pair_at_reply n position ≡ served (f ∷ g ∷ []) → next_pair n position ≡ record { f = f; g = g }
  unfolding pair_at_reply
  next_found f g e =
      let (degree, others) = none_applies (degree_cause n ∷ leb (list_length n) position gives 2 ∷ []) _ _ e in
      let (low, high) = within 1 31 degree in
      let (below, is) = pair_given n low high position f g e in
      next_below below ∙ is

pub next_none : (n position : ℕ) {k : ℕ} → n ≤ 31 → pair_at_reply n position ≡ refused k → next_pair n position ≡ record { f = 0; g = 0 }
next_none zero position high e = next_end zero position (omega arith)
next_none (suc n) position {k} high e = go (dec_lt position (list_length (suc n)))
  where
    go : Dec (position < list_length (suc n)) → next_pair (suc n) position ≡ record { f = 0; g = 0 }
    go (yes l) =
        absurd (let z = sym (pair_answers (suc n) (omega arith) high position l) ∙ e in let z : ◌≡◌ {A = ℕ} 0 1 = cc in omega arith)
    go (no l) = next_end (suc n) position (omega arith)

-- ---- of a record
module _ (n position : ℕ) (marks counts : List ℕ) where
  pub right_at : PairRight (walk_at n position marks counts)
  right_at = record { below = next_below n position; at_end = next_end n position }

  -- one that holds a pair which is known to be the next one
  pub holding : {pair : Pair} → next_pair n position ≡ pair
      → record { degree = n; position = position; marks = marks; counts = counts; f = pair.f; g = pair.g }
      ≡ walk_at n position marks counts
  holding e = ap (λ (p : Pair). record { degree = n; position = position; marks = marks; counts = counts; f = p.f; g = p.g }) (sym e)

pub right_next : (walk : Walk) → PairRight walk → held walk ≡ next_pair walk.degree walk.position
right_next walk right = go (dec_lt walk.position (list_length walk.degree))
  where
    go : Dec (walk.position < list_length walk.degree) → held walk ≡ next_pair walk.degree walk.position
    go (yes l) = right.below l ∙ sym (next_below walk.degree walk.position l)
    go (no l) =
        let end : list_length walk.degree ≤ walk.position = omega arith in
        right.at_end end ∙ sym (next_end walk.degree walk.position end)

-- ---- the pair after a call, by its reply, the record that it stores where it is served, and the record before
module _ (new old : Walk) where
  -- a call that is of a kind only where it is served
  moved_right : (kind : Reply → ℕ) → ((number : ℕ) → kind (refused number) ≡ 0) → kind spent ≡ 0 → PairRight new → (reply : Reply)
      → 1 ≤ kind reply → PairRight (after reply new old)
  moved_right kind refusing none right (served values) h = right
  moved_right kind refusing none right (refused number) h = let z = refusing number in absurd (omega arith)
  moved_right kind refusing none right spent h = absurd (omega arith)

  -- a call that is of a kind wherever it is served
  stayed_held : (kind : Reply → ℕ) → ((values : List ℕ) → kind (served values) ≡ 1) → (reply : Reply) → kind reply ≡ 0
      → held (after reply new old) ≡ held old
  stayed_held kind serving (served values) h = let z = serving values in absurd (omega arith)
  stayed_held kind serving (refused number) h = refl
  stayed_held kind serving spent h = refl

  -- a call that stores no other pair
  same_held : held new ≡ held old → (reply : Reply) → held (after reply new old) ≡ held old
  same_held e (served values) = e
  same_held e (refused number) = refl
  same_held e spent = refl

pub sets_right : SetsRightClaim
unfolding after_draw after_set_mark after_go_back
sets_right walk look = record { moving = λ h. absurd (omega arith); staying = λ h. refl }
sets_right walk (draw bonder) = record {
  moving =
      moved_right _ walk (moved (draw bonder)) (λ number. refl) refl (right_at walk.degree (walk.position + 1) _ _)
      (draw_reply walk bonder);
  staying = stayed_held _ walk (moved (draw bonder)) (λ values. refl) (draw_reply walk bonder);
}
sets_right walk (set_mark mark) = record {
  moving = λ h. absurd (omega arith);
  staying = λ h. same_held _ walk refl (set_mark_reply walk mark);
}
sets_right walk (go_back mark) = record {
  moving =
      moved_right _ walk (moved (go_back mark)) (λ number. refl) refl (right_at walk.degree (get_or walk.marks mark 0 - 1) _ _)
      (go_back_reply walk mark);
  staying = stayed_held _ walk (moved (go_back mark)) (λ values. refl) (go_back_reply walk mark);
}
