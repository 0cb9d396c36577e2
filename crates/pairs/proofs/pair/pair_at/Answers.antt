-- `pair_at` meets its contract: the list's length tells whether the degree is refused, and then whether the position is.
use mathlib.Core.Bool.{false}
use mathlib.Core.List.{[], ◌∷◌}
use mathlib.Core.Path.{◌≡◌, ap, ◌∙◌}
use Prim.Native.Nat.{ℕ, ◌≤◌, ◌<◌}
use borrow.Author.Tests.{le-leb, lt-leb}
use Rattle.std.proofs.lemmas.Result.{err_from_is_err_and}
use lib.ListN.{length, get_or}
use Rattle.reply.specs.Reply.{served, refused}
use Rattle.poly.specs.Limits.{outside, list_length}
use Rattle.poly.specs.Replies.{length_reply}
use Rattle.poly.proofs.Ranges.{within, length_served, count_refused}
use Rattle.pairs.specs.Pairs.{start, pairs}
use Rattle.pairs.specs.Replies.{pair_reply, pair_at_reply}
use Rattle.pairs.proofs.Pairs.{length_pairs}
use Rattle.pairs.proofs.pair.pair_at.Goals as goal

module _ (n position : ℕ) where
  bad_degree : {k : ℕ} → refused k ≡ length_reply n → refused k ≡ pair_at_reply n position
  unfolding pair_at_reply
  bad_degree e = let (out, one) = count_refused n (list_length n) e in rw (out, one)

  module _ (length' : ℕ) (e : served (length' ∷ []) ≡ length_reply n) where
    known : (outside 1 31 n ≡ false) × (length' ≡ list_length n)
    known = length_served n e

    bad_position : length' ≤ position → refused 2 ≡ pair_at_reply n position
    unfolding pair_at_reply
    bad_position h = rw (known.0, le-leb (list_length n) position (rw known.1 at h))

    few : n ≤ 31
    few = (within 1 31 known.0).1

    in_list : position < length' → position < length (pairs n)
    in_list h = rw (length_pairs n) (rw known.1 at h)

    found : position < length' → pair_reply (get_or (pairs n) position start) ≡ pair_at_reply n position
    unfolding pair_at_reply
    found h = rw (known.0, lt-leb (list_length n) position (rw known.1 at h))

pub returns-then-length-position : goal.returns-then-length-position
returns-then-length-position c =
    let a = c.args in
    bad_position a.n a.position _ c.in_ok-length.ensures c.if-length-position.true

pub seek-requires : goal.seek-requires
seek-requires c =
    let a = c.args in
    record {
      n_bound = few a.n a.position _ c.in_ok-length.ensures;
      position_in_bounds = in_list a.n a.position _ c.in_ok-length.ensures c.if-length-position.false;
    }

pub returns-in_err-length : goal.returns-in_err-length
returns-in_err-length c =
    let a = c.args in
    let p = err_from_is_err_and c.from_residual.result c.from_residual.ensures.1 in
    rw (p.1, p.2) (bad_degree a.n a.position c.in_err-length.ensures)

pub returns : goal.returns
returns c =
    let a = c.args in
    ap pair_reply c.seek.ensures ∙ found a.n a.position _ c.in_ok-length.ensures c.if-length-position.false
