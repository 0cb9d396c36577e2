-- `fill` meets its contract: one letter is the last, or both letters go on, and what is written for each is written one after the other.
use mathlib.Core.List.{List}
use mathlib.Core.Path.{◌≡◌, sym, ◌∙◌}
use Prim.Native.Nat.{ℕ, ◌-◌, ◌≤◌, ◌<◌}
use native.Mathlib.Omega.{arith}
use lib.ListN.{length, take}
use lib.Seq.{length-take-le}
use borrow.Author.Tests.{leb-true, leb-false}
use Rattle.listing.specs.Filling.{Ready}
use Rattle.listing.proofs.Written.{skipped}
use Rattle.listing.proofs.Onward.{length_onward, product_fits, asks_0, asks_1, both_letters, last_letter}
use Rattle.listing.proofs.Front.{written_front, ready_front}
use Rattle.listing.proofs.+fill.Goals as goal

-- the heads but the last
inside : (heads : List ℕ) → length heads - 1 ≤ length heads
inside heads = omega arith

less-left : {t r s : ℕ} {heads : List ℕ} → length heads ≡ t → Ready heads (length heads) r s → length (take (length heads - 1) heads) < t
less-left {heads = heads} e ready = omega (arith, ready.some, length-take-le (length heads - 1) heads (inside heads))

pub returns-then-all_skipped : goal.returns-then-all_skipped
returns-then-all_skipped t c =
    let a = c.args in
    let all = leb-true _ _ (sym (c.all_skipped.ensures a.s) ∙ c.if-all_skipped.true) in
    skipped (rw (length_onward a.heads.now (length a.heads.now) a.r a.s) all)

pub turned-next-requires : goal.turned-next-requires
turned-next-requires t c = product_fits c.requires

pub returns-then-m-eq1 : goal.returns-then-m-eq1
returns-then-m-eq1 t c =
    last_letter c.requires c.turned-next.ensures c.if-m-eq1.true
    (leb-false _ _ (sym (c.all_skipped.ensures _) ∙ c.if-all_skipped.false)) c.saturating_sub.ensures c.put-one.ensures c.put.ensures

pub fill-half-requires : goal.fill-half-requires
fill-half-requires t c =
    (less-left c.decreases c.requires, ready_front _ _ (inside _) _ _ (asks_0 c.requires c.turned-next.ensures c.if-m-eq1.false))

pub fill-requires : goal.fill-requires
fill-requires t c =
    (less-left c.decreases c.requires, ready_front _ _ (inside _) _ _ (asks_1 c.requires c.turned-next.ensures c.if-m-eq1.false))

pub returns : goal.returns
returns t c =
    both_letters c.requires c.turned-next.ensures (c.skipped_behind-rest.ensures _) (written_front _ _ (inside _) _ _ c.fill-half.ensures)
    (written_front _ _ (inside _) _ _ c.fill.ensures)
