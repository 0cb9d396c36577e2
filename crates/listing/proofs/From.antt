-- The call for many pairs and the pair call speak of the same entries of the list.
use mathlib.Core.Bool.{false}
use mathlib.Core.List.{List, [], ◌∷◌, ◌++◌}
use mathlib.Core.Path.{◌≡◌, refl, sym, ap, ap₂, ◌∙◌}
use Prim.Native.Nat.{ℕ, zero, suc, ◌+◌, ◌-◌, ◌*◌, ◌/◌, ◌<◌, min}
use native.Mathlib.Omega.{arith}
use borrow.Author.Tests.{lt-leb, leb-false}
use lib.Dec.{leb, ltb}
use lib.ListN.{length, drop, get_or, length-take, length-drop, get_or-append}
use lib.Seq.{get_or-take, get_or-drop}
use Rattle.reply.specs.Reply.{Reply, served, after, ◌gives◌}
use Rattle.reply.proofs.Order.{none_applies, none_refuses}
use Rattle.poly.specs.Limits.{outside, list_length}
use Rattle.poly.specs.Causes.{degree_cause}
use Rattle.euclid.specs.Chain.{Pair}
use Rattle.pairs.specs.Pairs.{start, pairs, entry}
use Rattle.pairs.specs.Replies.{pair_reply, pair_at_reply}
use Rattle.pairs.proofs.Pairs.{length_pairs}
use Rattle.listing.specs.Replies.{codes, pairs_from, from_reply, from_content}
use Rattle.listing.specs.Claims.{FromClaim}

pub length_codes : (s : List Pair) → length (codes s) ≡ 2 * length s
length_codes [] = refl
length_codes (x ∷ s) = omega (arith, length_codes s)

-- both codes of a pair among those of a list
codes_at : (s : List Pair) (i : ℕ) → i < length s
    → (get_or (codes s) (2 * i) 0 ≡ (get_or s i start).f) × (get_or (codes s) (2 * i + 1) 0 ≡ (get_or s i start).g)
codes_at [] i h = absurd (omega arith)
codes_at (x ∷ s) zero h = (refl, refl)
codes_at (x ∷ s) (suc i) h =
    let at : ℕ → ℕ = λ j. get_or (codes (x ∷ s)) j 0 in
    let first : 2 * suc i ≡ suc (suc (2 * i)) = omega arith in
    let second : 2 * suc i + 1 ≡ suc (suc (2 * i + 1)) = omega arith in
    let (f, g) = codes_at s i (omega arith) in
    (ap at first ∙ f, ap at second ∙ g)

module _ (n position room i : ℕ) (h : i < length (pairs_from n position room)) where
  entry_at : get_or (pairs_from n position room) i start ≡ entry n (position + i)
  unfolding pairs_from
  entry_at =
      let rest : List Pair = drop position (pairs n) in
      let few : i < room / 2 = omega (arith, length-take (room / 2) rest) in
      get_or-take (room / 2) rest i start few ∙ get_or-drop position (pairs n) i start

  in_list : position + i < list_length n
  unfolding pairs_from
  in_list =
      omega (arith, length-take (room / 2) (drop position (pairs n)), length-drop position (pairs n), length_pairs n)

module _ (n position : ℕ) (out : List ℕ) (many : ℕ) (e : from_reply n position (length out) ≡ served (many ∷ [])) where
  abbrev given : List Pair
  given = pairs_from n position (length out)

  causes : (outside 1 31 n ≡ false) × ((leb (list_length n) position ≡ false) × ((ltb (length out) 2 ≡ false) × Unit {0}))
  unfolding from_reply
  causes =
      none_applies (degree_cause n ∷ leb (list_length n) position gives 2 ∷ ltb (length out) 2 gives 4 ∷ [])
      (length given ∷ []) (many ∷ []) e

  reply : from_reply n position (length out) ≡ served (length given ∷ [])
  unfolding from_reply
  reply = none_refuses (degree_cause n ∷ leb (list_length n) position gives 2 ∷ ltb (length out) 2 gives 4 ∷ []) _ causes

  many_is : many ≡ length given
  many_is = let same : served (many ∷ []) ≡ served (length given ∷ []) = sym e ∙ reply in cc

  -- as many pairs as there are and as fit
  pub from_many : (outside 1 31 n ≡ false) × (position < list_length n) × (many ≡ min (length out / 2) (list_length n - position))
  unfolding pairs_from
  from_many =
      let all = length-take (length out / 2) (drop position (pairs n)) in (
        causes.0,
        leb-false (list_length n) position causes.1.0,
        many_is ∙ all ∙ ap (min (length out / 2)) (length-drop position (pairs n) ∙ ap (λ v. v - position) (length_pairs n)),
      )

  content : from_content n position out ≡ codes given ++ drop (length (codes given)) out
  unfolding from_content
  content = ap (λ (r : Reply). after r (codes given ++ drop (length (codes given)) out) out) reply

  written_at : (j : ℕ) → j < 2 * length given → get_or (from_content n position out) j 0 ≡ get_or (codes given) j 0
  written_at j h = rw content (get_or-append (codes given) _ 0 j (omega (arith, length_codes given)))

pub from_entries : FromClaim
unfolding pair_at_reply
from_entries n position out many i e h =
    let room : ℕ = length out in
    let few : i < length (given n position out many e) = rw (many_is n position out many e) at h in
    let (f, g) = codes_at (given n position out many e) i few in
    let low : leb (list_length n) (position + i) ≡ false = lt-leb (list_length n) (position + i) (in_list n position room i few) in
    none_refuses (degree_cause n ∷ leb (list_length n) (position + i) gives 2 ∷ []) _ ((causes n position out many e).0, (low, tt))
    ∙ ap pair_reply (sym (entry_at n position room i few))
    ∙ ap₂ (λ (u v : ℕ). served (u ∷ v ∷ []))
    (sym (written_at n position out many e (2 * i) (omega arith) ∙ f))
    (sym (written_at n position out many e (2 * i + 1) (omega arith) ∙ g))
