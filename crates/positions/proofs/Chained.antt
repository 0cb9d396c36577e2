-- From the chain call's reply to the position call's. The causes are the same up to the last: the chain call asks for room, which is there,
-- and the position call asks that the codes are coprime.
use Prim.Native.Nat.{ℕ, suc, ◌-◌, ◌≤◌, ◌<◌}
use native.Mathlib.Omega.{arith}
use mathlib.Core.Path.{◌≡◌, refl, sym, ap, ap₂, ◌∙◌}
use mathlib.Core.Bool.{true, false, true≢false}
use mathlib.Core.List.{List, [], ◌∷◌, ◌++◌, reverse}
use lib.ListN.{length, length-append, drop, replicate}
use borrow.Author.Tests.{eq-eqb, ne_eqb}
use Rattle.reply.specs.Reply.{Reply, served, refused, Cause, ◌gives◌, unless, after}
use Rattle.poly.specs.Code.{add}
use Rattle.poly.specs.Causes.{degree_cause, code_causes, common_factor}
use Rattle.poly.specs.Coprime.{gcd}
use Rattle.reply.proofs.Order.{NoneApplies}
use Rattle.poly.proofs.Ranges.{within, Passed, passed_codes}
use Rattle.euclid.specs.Chain.{Chain, chain}
use Rattle.euclid.specs.Replies.{chain_reply, chain_content}
use Rattle.euclid.proofs.Chains.{chain_divisor, first_quotient}
use Rattle.pairs.specs.Pairs.{pairs, index_of}
use Rattle.pairs.specs.Sequences.{sequences}
use Rattle.positions.specs.Replies.{position_reply}
use Rattle.positions.specs.Ranking.{StandsAt, Among, backwards}
use Rattle.positions.proofs.Ranking.{sequence_stands, sequence_rank_lem, backwards_reverse}
use Rattle.pairs.proofs.Valid.{Valid}
use Rattle.pairs.proofs.Sequences.{sequence_rank}
use Rattle.pairs.proofs.Standing.{standing}

-- ---- causes
served≢refused : {values : List ℕ} {k : ℕ} → served values ≡ refused k → ⊥
served≢refused e = let z : ◌≡◌ {A = ℕ} 0 1 = cc in omega arith

first : {a b c d : ℕ} → served (a ∷ b ∷ []) ≡ served (c ∷ d ∷ []) → a ≡ c
first e = cc

second : {a b c d : ℕ} → served (a ∷ b ∷ []) ≡ served (c ∷ d ∷ []) → b ≡ d
second e = cc

-- A call whose last cause does not apply, and another that shares the causes before it.
module _ (last : ℕ) (values : List ℕ) where
  still_refused : (more : List Cause) (reply : Reply) (causes : List Cause) {k : ℕ}
      → refused k ≡ unless (causes ++ (false gives last ∷ [])) (served values) → refused k ≡ unless (causes ++ more) reply
  still_refused more reply [] e = absurd (served≢refused (sym e))
  still_refused more reply ((true gives k) ∷ causes) e = e
  still_refused more reply ((false gives k) ∷ causes) e = still_refused more reply causes e

  still_served : (causes : List Cause) {us : List ℕ} → served us ≡ unless (causes ++ (false gives last ∷ [])) (served values)
      → NoneApplies causes × (served us ≡ served values)
  still_served [] e = (tt, e)
  still_served ((true gives k) ∷ causes) e = absurd (served≢refused e)
  still_served ((false gives k) ∷ causes) e = let (quiet, same) = still_served causes e in ((refl, quiet), same)

-- Causes of which none applies drop out.
quiet_on : (more : List Cause) (reply : Reply) (causes : List Cause) → NoneApplies causes
    → unless (causes ++ more) reply ≡ unless more reply
quiet_on more reply [] q = refl
quiet_on more reply ((true gives k) ∷ causes) q = absurd (true≢false q.0)
quiet_on more reply ((false gives k) ∷ causes) q = quiet_on more reply causes q.1

-- ---- the two calls
abbrev causes : ℕ → ℕ → ℕ → List Cause
causes n f g = degree_cause n ∷ code_causes n f ++ code_causes n g

abbrev values : ℕ → ℕ → List ℕ
values f g = length (chain 2 f g).quotients ∷ (chain 2 f g).divisor ∷ []

pub refuses : (n f g : ℕ) {k : ℕ} → refused k ≡ chain_reply n f g 32 → refused k ≡ position_reply n f g
unfolding position_reply
refuses n f g e = still_refused 4 (values f g) (common_factor f g ∷ []) (served (index_of f g (pairs n) ∷ [])) (causes n f g) e

-- The chain call on an array of 32 zeros was served.
pub record Chained (n f g : ℕ) (array : List ℕ) (count divisor : ℕ) : Type 0 where
  pub reply : served (count ∷ divisor ∷ []) ≡ chain_reply n f g 32
  pub content : array ≡ chain_content n f g (replicate 32 0)

module _ {n f g : ℕ} {array : List ℕ} {count divisor : ℕ} (call : Chained n f g array count divisor) where
  quiet : NoneApplies (causes n f g)
  quiet = (still_served 4 (values f g) (causes n f g) call.reply).0

  same : served (count ∷ divisor ∷ []) ≡ served (values f g)
  same = (still_served 4 (values f g) (causes n f g) call.reply).1

  divisor_is : divisor ≡ gcd 2 f g
  divisor_is = second same ∙ chain_divisor 2 f g

  answer : position_reply n f g ≡ unless (common_factor f g ∷ []) (served (index_of f g (pairs n) ∷ []))
  unfolding position_reply
  answer = quiet_on (common_factor f g ∷ []) (served (index_of f g (pairs n) ∷ [])) (causes n f g) quiet

  pub factor : (divisor ≡ 1 → ⊥) → refused 8 ≡ position_reply n f g
  factor h = sym (answer ∙ rw (ne_eqb (gcd 2 f g) 1 (λ e. h (divisor_is ∙ e))))

  range : (1 ≤ n) × (n ≤ 31)
  range = within 1 31 quiet.0

  pub degree_small : n < 32
  degree_small = omega (arith, range)

  codes : Passed n f g
  unfolding code_causes
  codes = passed_codes n f g [] quiet.1

  -- The quotients behind the leading 1.
  rs : List ℕ
  rs = (chain 2 g (add 2 f g)).quotients

  quotients_are : (chain 2 f g).quotients ≡ 1 ∷ rs
  unfolding rs
  quotients_are = ap (λ (c : Chain). c.quotients) (first_quotient codes.degree_f codes.degree_g)

  count_is : count ≡ suc (length rs)
  count_is = first same ∙ ap length quotients_are

  -- What stands behind them in the array.
  rest : List ℕ
  rest = drop (length (chain 2 f g).quotients) (replicate 32 0)

  array_is : array ≡ (1 ∷ rs) ++ rest
  unfolding rest
  array_is =
      call.content
      ∙ ap (λ (r : Reply). after r ((chain 2 f g).quotients ++ rest) (replicate 32 0)) (sym call.reply)
      ∙ ap (λ t. t ++ rest) quotients_are

  backwards_are : backwards array (count - 1) ≡ reverse rs
  backwards_are =
      let e : count - 1 ≡ length rs = omega (arith, count_is) in
      ap₂ backwards array_is e ∙ backwards_reverse 1 rs rest

  pub count_pos : 1 ≤ count
  count_pos = omega (arith, count_is)

  pub count_lt : count - 1 < length array
  count_lt = omega (arith, count_is, ap length array_is, length-append (1 ∷ rs) rest)

  module _ (one : divisor ≡ 1) where
    coprime : gcd 2 f g ≡ 1
    coprime = sym divisor_is ∙ one

    stands : Valid n (reverse rs) × (index_of f g (pairs n) ≡ sequence_rank n (reverse rs))
    stands =
        standing n f g range.0 codes.degree_f codes.degree_g codes.odd_f codes.odd_g coprime rs quotients_are

    pub listed : Among (sequences n) (backwards array (count - 1))
    listed =
        rw backwards_are
        (_, sequence_stands n (reverse rs) stands.0)

    pub position : {r : ℕ} → StandsAt (sequences n) r (backwards array (count - 1)) → served (r ∷ []) ≡ position_reply n f g
    position {r} s =
        let there : StandsAt (sequences n) r (reverse rs) = rw backwards_are at s in
        let at : index_of f g (pairs n) ≡ r =
        stands.1 ∙ sequence_rank_lem n r (reverse rs) there in
        sym (answer ∙ rw (eq-eqb (gcd 2 f g) 1 coprime, at))
