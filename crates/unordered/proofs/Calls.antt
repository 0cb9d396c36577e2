-- What the calls answer. The second list's call answers as the pair call does at twice the entry. What is said of swapped codes follows
-- from the theorem on the list, since the pair call and the position call undo each other.
use Prim.Native.Nat.{ℕ, ◌*◌, ◌/◌, ◌%◌, ◌≤◌, ◌<◌}
use native.Mathlib.Decide.{dec_lt}
use native.Mathlib.Omega.{arith}
use mathlib.Core.Logic.{inl, inr}
use mathlib.Core.List.{[], ◌∷◌, ◌++◌}
use mathlib.Core.Path.{◌≡◌, sym, ap, ◌∙◌}
use borrow.Author.Tests.{le-leb, lt-leb}
use lib.Dec.{leb}
use lib.ListN.{length}
use Rattle.reply.specs.Reply.{served}
use Rattle.reply.proofs.Order.{none_applies}
use Rattle.poly.specs.Limits.{list_length}
use Rattle.poly.specs.Causes.{degree_cause, code_causes, common_factor}
use Rattle.poly.proofs.Ranges.{within}
use Rattle.pairs.specs.Pairs.{pairs}
use Rattle.pairs.specs.Replies.{pair_reply, pair_at_reply}
use Rattle.pairs.proofs.Pairs.{length_pairs}
use Rattle.pairs.proofs.Standing.{pair_answers, pair_given}
use Rattle.positions.specs.Replies.{position_reply}
use Rattle.positions.proofs.Undo.{calls_undo}
use Rattle.unordered.specs.Unordered.{swap, other, unordered_length}
use Rattle.unordered.specs.Replies.{unordered_reply}
use Rattle.unordered.specs.Claims.{GivesEither, BothOrders, CallsClaim}
use Rattle.unordered.proofs.Flips.{other_is}
use Rattle.unordered.proofs.Swaps.{other_lt, other_swaps}
use Rattle.unordered.proofs.Once.{half_even, half_odd, halves}

-- ---- the entry and twice the entry are refused together
same_test : (n j : ℕ) → leb (unordered_length n) j ≡ leb (list_length n) (2 * j)
same_test n j = elim (dec_lt j (unordered_length n)) [
  | yes l ↦ lt-leb (unordered_length n) j l ∙ sym (lt-leb (list_length n) (2 * j) (omega (arith, halves n, length_pairs n)))
  | no l ↦ le-leb (unordered_length n) j (omega arith) ∙ sym (le-leb (list_length n) (2 * j) (omega (arith, halves n, length_pairs n)))
]

pub doubled : (n j : ℕ) → unordered_reply n j ≡ pair_at_reply n (2 * j)
unfolding unordered_reply pair_at_reply
doubled n j = rw (same_test n j)

-- ---- swapped codes
module _ (n : ℕ) (low : 1 ≤ n) (high : n ≤ 31) where
  pair_swapped : (j f g : ℕ) → pair_at_reply n j ≡ served (f ∷ g ∷ []) → pair_at_reply n (other j) ≡ served (g ∷ f ∷ [])
  pair_swapped j f g e =
      let (h, is) = pair_given n low high j f g e in
      let below : j < length (pairs n) = rw length_pairs h in
      pair_answers n low high (other j) (rw length_pairs at (other_lt n j below))
      ∙ ap pair_reply (other_swaps n j below ∙ ap swap is)

  module _ (f g j : ℕ) (placed : position_reply n f g ≡ served (j ∷ [])) where
    here : pair_at_reply n j ≡ served (f ∷ g ∷ [])
    here = (calls_undo n low high j f g).1 placed

    -- a position at which the pair call gives f and g is j
    place_is : (i : ℕ) → pair_at_reply n i ≡ served (f ∷ g ∷ []) → i ≡ j
    place_is i e = let same : served (i ∷ []) ≡ served (j ∷ []) = sym ((calls_undo n low high i f g).0 e) ∙ placed in cc

    given_at : (k : ℕ) → GivesEither n k f g → k ≡ j / 2
    given_at k (inl e) = omega (arith, place_is (2 * k) (sym (doubled n k) ∙ e))
    given_at k (inr e) = omega (arith, other_is (2 * k), place_is (other (2 * k)) (pair_swapped (2 * k) g f (sym (doubled n k) ∙ e)))

    at_half : GivesEither n (j / 2) f g
    at_half = elim (dec_lt (j % 2) 1) [
      | yes e ↦ inl (doubled n (j / 2) ∙ ap (pair_at_reply n) (half_even j e) ∙ here)
      | no e ↦ inr (doubled n (j / 2) ∙ ap (pair_at_reply n) (half_odd j e) ∙ pair_swapped j f g here)
    ]

    both_orders : BothOrders n f g j
    both_orders = record {
      swapped = (calls_undo n low high (other j) g f).0 (pair_swapped j f g here);
      at_half = λ k. (given_at k, λ e. rw e at_half);
    }

placed_inside : (n f g j : ℕ) → position_reply n f g ≡ served (j ∷ []) → (1 ≤ n) × (n ≤ 31)
unfolding position_reply
placed_inside n f g j e =
    within 1 31 (none_applies (degree_cause n ∷ code_causes n f ++ code_causes n g ++ (common_factor f g ∷ [])) _ _ e).0

pub calls_swap : CallsClaim
calls_swap n =
    record {
      doubled = doubled n;
      placed = λ f g j e. let (low, high) = placed_inside n f g j e in both_orders n low high f g j e;
    }
