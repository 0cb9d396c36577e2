-- `longest_chains` meets its contract: the list's length tells whether the degree is refused, and the number of words of n letters is that
-- of the positions.
use mathlib.Core.Bool.{false}
use mathlib.Core.Path.{◌≡◌, sym, ◌∙◌}
use mathlib.Core.List.{[], ◌∷◌}
use Prim.Native.Nat.{ℕ, ◌-◌, ◌≤◌}
use native.Mathlib.Omega.{arith}
use Rattle.std.proofs.lemmas.Result.{err_from_is_err_and}
use lib.ListN.{length}
use Rattle.reply.specs.Reply.{served, refused}
use Rattle.poly.specs.Limits.{outside, list_length}
use Rattle.poly.specs.Replies.{length_reply}
use Rattle.poly.proofs.Ranges.{within, length_served, count_refused}
use Rattle.pairs.specs.Words.{s10, words as words_of}
use Rattle.pairs.proofs.Words.{count, length_words}
use Rattle.longest.specs.Replies.{longest_reply}
use Rattle.longest.proofs.LastBlock.{fewer}
use Rattle.longest.proofs.Calls.{parted, none_reach, some_reach}
use Rattle.longest.proofs.longest_chains.Goals as goal

module _ (n : ℕ) where
  bad_degree : {k : ℕ} → refused k ≡ length_reply n → refused k ≡ longest_reply n
  unfolding longest_reply
  bad_degree e = let (out, one) = count_refused n (list_length n) e in rw (out, one)

  module _ {length' words : ℕ} (e : served (length' ∷ []) ≡ length_reply n) (w : words ≡ length (words_of n)) where
    known : (outside 1 31 n ≡ false) × (length' ≡ list_length n)
    known = length_served n e

    counted : words ≡ count s10 n
    counted = w ∙ length_words s10 n

    enough : words ≤ length'
    enough = omega (arith, known.1, counted, parted n known.0)

    none : words ≡ 0 → served (0 ∷ []) ≡ longest_reply n
    none z = sym (none_reach n known.0 (omega (arith, counted)))

    some : (words ≡ 0 → ⊥) → served (words ∷ (length' - words) ∷ []) ≡ longest_reply n
    some h =
        let first : length' - words ≡ fewer n = omega (arith, known.1, counted, parted n known.0) in
        rw (first, counted) (sym (some_reach n known.0 (omega (arith, counted))))

pub returns-in_err-length : goal.returns-in_err-length
returns-in_err-length c =
    let p = err_from_is_err_and c.from_residual.result c.from_residual.ensures.1 in
    rw (p.1, p.2) (bad_degree c.args.n c.in_err-length.ensures)

pub reaching-count-requires : goal.reaching-count-requires
reaching-count-requires c = (within 1 31 (length_served c.args.n c.in_ok-length.ensures).0).1

pub returns-then-count-eq0 : goal.returns-then-count-eq0
returns-then-count-eq0 c = none c.args.n c.in_ok-length.ensures c.reaching-count.ensures c.if-count-eq0.true

pub overflow_sub-first : goal.overflow_sub-first
overflow_sub-first c = enough c.args.n c.in_ok-length.ensures c.reaching-count.ensures

pub returns : goal.returns
returns c = some c.args.n c.in_ok-length.ensures c.reaching-count.ensures c.if-count-eq0.false
