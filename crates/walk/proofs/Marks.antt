-- The replies to setting a mark and to going back, case by case, and the record after them.
use mathlib.Core.List.{[], ◌∷◌}
use mathlib.Core.Path.{◌≡◌, refl}
use Prim.Native.Nat.{ℕ, ◌+◌, ◌-◌}
use borrow.Author.Tests.{ne_eqb}
use lib.ListN.{get_or, set}
use Rattle.reply.specs.Reply.{served, refused}
use Rattle.reply.proofs.Order.{passed, failed, kept}
use Rattle.walk.specs.declared.Walk.{Walk}
use Rattle.walk.specs.Walks.{walk_at, record_cause, mark_cause, empty_cause, set_mark_reply, after_set_mark, go_back_reply, after_go_back}
use Rattle.walk.proofs.Tests.{tested}

module _ (walk : Walk) (mark : ℕ) where
  -- ---- setting
  pub set_tested : tested walk mark 18 ≡ set_mark_reply walk mark
  unfolding set_mark_reply
  set_tested = refl

  pub set_refused : {k : ℕ} → refused k ≡ set_mark_reply walk mark → walk ≡ after_set_mark walk mark
  unfolding after_set_mark
  set_refused e = kept e _ walk

  pub set_done : served [] ≡ set_mark_reply walk mark
      → record {
        degree = walk.degree;
        position = walk.position;
        marks = set walk.marks mark (walk.position + 1);
        counts = walk.counts;
        f = walk.f;
        g = walk.g;
      } ≡ after_set_mark walk mark
  unfolding after_set_mark
  set_done e = rw (← e)

  -- ---- going back, which is refused where setting is
  pub back_untested : {k : ℕ} → refused k ≡ tested walk mark 18 → refused k ≡ go_back_reply walk mark
  unfolding go_back_reply
  back_untested e = failed (empty_cause walk.marks mark ∷ []) (served []) (record_cause walk ∷ mark_cause mark ∷ []) e

  module _ (first : served [] ≡ tested walk mark 18) where
    pub back_empty : get_or walk.marks mark 0 ≡ 0 → refused 19 ≡ go_back_reply walk mark
    unfolding go_back_reply
    back_empty e =
        rw (passed (empty_cause walk.marks mark ∷ []) (served []) (record_cause walk ∷ mark_cause mark ∷ []) first, e)

    pub back_served : (get_or walk.marks mark 0 ≡ 0 → ⊥) → served [] ≡ go_back_reply walk mark
    unfolding go_back_reply
    back_served ne =
        rw (
          passed (empty_cause walk.marks mark ∷ []) (served []) (record_cause walk ∷ mark_cause mark ∷ []) first,
          ne_eqb (get_or walk.marks mark 0) 0 ne,
        )

  pub back_refused : {k : ℕ} → refused k ≡ go_back_reply walk mark → walk ≡ after_go_back walk mark
  unfolding after_go_back
  back_refused e = kept e _ walk

  pub back_done : served [] ≡ go_back_reply walk mark
      → walk_at walk.degree (get_or walk.marks mark 0 - 1) walk.marks walk.counts ≡ after_go_back walk mark
  unfolding after_go_back
  back_done e = rw (← e)
