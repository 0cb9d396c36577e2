-- `pair_at` meets its contract: the list's length tells whether the degree is refused, then half of it whether the entry is; and the pair
-- call serves at twice the entry, which is below 2^61.
use mathlib.Core.Bool.{false}
use mathlib.Core.List.{[], ◌∷◌}
use mathlib.Core.Path.{◌≡◌, sym, ◌∙◌}
use Prim.Native.Nat.{ℕ, ◌*◌, ◌/◌, ◌^◌, ◌≤◌, ◌<◌}
use native.Mathlib.Omega.{arith}
use borrow.Author.Tests.{le-leb}
use Rattle.std.proofs.lemmas.Result.{err_from_is_err_and}
use Rattle.reply.specs.Reply.{served, refused}
use Rattle.poly.specs.Limits.{outside, list_length}
use Rattle.poly.specs.Replies.{length_reply}
use Rattle.poly.proofs.Ranges.{within, length_served, count_refused, list_length_lt}
use Rattle.unordered.specs.Unordered.{unordered_length}
use Rattle.unordered.specs.Replies.{unordered_reply}
use Rattle.unordered.proofs.Calls.{doubled}
use Rattle.unordered.proofs.pair_at.Goals as goal

module _ (n entry : ℕ) where
  bad_degree : {k : ℕ} → refused k ≡ length_reply n → refused k ≡ unordered_reply n entry
  unfolding unordered_reply
  bad_degree e = let (out, one) = count_refused n (list_length n) e in rw (out, one)

  module _ (length : ℕ) (e : served (length ∷ []) ≡ length_reply n) where
    known : (outside 1 31 n ≡ false) × (length ≡ list_length n)
    known = length_served n e

    bad-entry : length / 2 ≤ entry → refused 2 ≡ unordered_reply n entry
    unfolding unordered_reply
    bad-entry h = rw (known.0, le-leb (unordered_length n) entry (omega (arith, known.1)))

    fits : entry < length / 2 → 2 * entry < 2 ^ 64
    fits h = omega (arith, known.1, list_length_lt n (within 1 31 known.0).1)

pub returns-in_err-length : goal.returns-in_err-length
returns-in_err-length c =
    let a = c.args in
    let p = err_from_is_err_and c.from_residual.result c.from_residual.ensures.1 in
    rw (p.1, p.2) (bad_degree a.n a.entry c.in_err-length.ensures)

pub returns-then-length-entry : goal.returns-then-length-entry
returns-then-length-entry c =
    let a = c.args in
    bad-entry a.n a.entry _ c.in_ok-length.ensures c.if-length-entry.true

pub returns : goal.returns
returns c = c.pair_at.ensures ∙ sym (doubled c.args.n c.args.entry)
