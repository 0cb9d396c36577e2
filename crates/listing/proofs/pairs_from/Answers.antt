-- `pairs_from` meets its contract: the causes in their order, and then what is written of the list, which starts at the front.
use mathlib.Core.Bool.{false}
use mathlib.Core.List.{List, [], ◌∷◌, ◌++◌}
use mathlib.Core.Path.{◌≡◌, sym, ap, ◌∙◌}
use Prim.Native.Nat.{ℕ, zero, suc, ◌+◌, ◌/◌, ◌≤◌, ◌<◌}
use native.Mathlib.Nat.{sub-zero, zero-add}
use native.Mathlib.Omega.{arith}
use borrow.Author.Tests.{le-leb, lt-leb, lt-ltb, le-ltb}
use Rattle.std.proofs.lemmas.Result.{err_from_is_err_and}
use lib.ListN.{length, take, drop}
use lib.Seq.{sets, sets-eq}
use Rattle.reply.specs.Reply.{Reply, served, refused, after}
use Rattle.reply.proofs.Order.{kept}
use Rattle.poly.specs.Limits.{outside, list_length}
use Rattle.poly.specs.Replies.{length_reply}
use Rattle.poly.proofs.Ranges.{within, length_served, length_refused}
use Rattle.euclid.specs.Chain.{Pair}
use Rattle.pairs.specs.Pairs.{pairs}
use Rattle.listing.specs.Replies.{codes, pairs_from, from_reply, from_content}
use Rattle.listing.specs.Filling.{fitting, Written}
use Rattle.listing.proofs.From.{length_codes}
use Rattle.listing.proofs.Written.{fitting_le}
use Rattle.listing.proofs.pairs_from.Goals as goal

module _ (n position : ℕ) (out : List ℕ) where
  abbrev Refuses : ℕ → Type 0
  Refuses k = (refused k ≡ from_reply n position (length out)) × (out ≡ from_content n position out)

  refuses : {k : ℕ} → refused k ≡ from_reply n position (length out) → Refuses k
  unfolding from_content
  refuses e = (e, kept e _ out)

  bad_degree : {k : ℕ} → refused k ≡ length_reply n → Refuses k
  unfolding from_reply
  bad_degree e = refuses (rw (length_refused n e) (rw (length_refused n e) at e))

  module _ (length' : ℕ) (e : served (length' ∷ []) ≡ length_reply n) where
    known : (outside 1 31 n ≡ false) × (length' ≡ list_length n)
    known = length_served n e

    bad_position : length' ≤ position → Refuses 2
    unfolding from_reply
    bad_position h = refuses (rw (known.0, le-leb (list_length n) position (rw known.1 at h)))

    module _ (below : position < length') where
      in_list : position < list_length n
      in_list = rw known.1 at below

      -- degree 1 has no pair
      asked : (2 ≤ n) × (n ≤ 31)
      asked = go n (within 1 31 known.0) in_list
        where
          go : (n : ℕ) → (1 ≤ n) × (n ≤ 31) → position < list_length n → (2 ≤ n) × (n ≤ 31)
          go zero (low, high) h = absurd (omega arith)
          go (suc zero) (low, high) h = absurd (omega arith)
          go (suc (suc n)) (low, high) h = (omega arith, high)

      no_room : length out < 2 → Refuses 4
      unfolding from_reply
      no_room h = refuses (rw (known.0, lt-leb (list_length n) position in_list, lt-ltb (length out) 2 h))

      filled : {new : List ℕ} {all : ℕ} → 2 ≤ length out → Written (pairs n) position out 0 new all
          → (served (all ∷ []) ≡ from_reply n position (length out)) × (new ≡ from_content n position out)
      unfolding from_reply from_content pairs_from
      filled {new} {all} room w = (sym reply, content)
        where
          given : List Pair
          given = pairs_from n position (length out)

          same : fitting (pairs n) position out 0 ≡ given
          same = ap (λ v. take v (drop position (pairs n))) (sub-zero (length out / 2))

          reply : from_reply n position (length out) ≡ served (all ∷ [])
          reply =
              rw (known.0, lt-leb (list_length n) position in_list, le-ltb (length out) 2 room)
              (ap (λ v. served (v ∷ [])) (sym (w.end ∙ zero-add _ ∙ ap length same)))

          fits : 0 + length (codes given) ≤ length out
          fits = omega (arith, length_codes given, ap length same, fitting_le (pairs n) position out 0)

          content : new ≡ from_content n position out
          content =
              w.content ∙ ap (λ ps. sets out 0 (codes ps)) same ∙ sets-eq (codes given) out 0 fits
              ∙ rw zero-add (sym (ap (λ (r : Reply). after r (codes given ++ drop (length (codes given)) out) out) reply))

pub returns-in_err-length : goal.returns-in_err-length
returns-in_err-length c =
    let a = c.args in
    let p = err_from_is_err_and c.from_residual.result c.from_residual.ensures.1 in
    let r = bad_degree a.n a.position a.out.now c.in_err-length.ensures in
    record { reply = rw (p.1, p.2) r.0; content = r.1 }

pub returns-then-length-position : goal.returns-then-length-position
returns-then-length-position c =
    let a = c.args in
    let r = bad_position a.n a.position a.out.now _ c.in_ok-length.ensures c.if-length-position.true in
    record { reply = r.0; content = r.1 }

pub returns-then-out-lt2 : goal.returns-then-out-lt2
returns-then-out-lt2 c =
    let a = c.args in
    let r = no_room a.n a.position a.out.now _ c.in_ok-length.ensures c.if-length-position.false c.if-out-lt2.true in
    record { reply = r.0; content = r.1 }

pub fill_list-requires : goal.fill_list-requires
fill_list-requires c =
    let a = c.args in
    asked a.n a.position a.out.now _ c.in_ok-length.ensures c.if-length-position.false

pub returns : goal.returns
returns c =
    let a = c.args in
    let r = filled a.n a.position a.out.now _ c.in_ok-length.ensures c.if-length-position.false c.if-out-lt2.false c.fill_list.ensures in
    record { reply = r.0; content = r.1 }
