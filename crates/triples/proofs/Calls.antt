-- What the call answers at degrees 2 to 6, from what is known of the list.
use Prim.Native.Nat.{ℕ, ◌≤◌, ◌<◌}
use native.Mathlib.Decide.{dec_lt}
use native.Mathlib.Omega.{arith}
use mathlib.Core.Bool.{Bool, true, false, true≢false}
use mathlib.Core.Path.{◌≡◌, sym, ap, ◌∙◌}
use borrow.Author.Tests.{lt-ltb, le-ltb}
use lib.ListN.{length, get_or}
use Rattle.reply.specs.Reply.{Reply, served, refused, spent}
use Rattle.poly.proofs.Ranges.{inside}
use Rattle.triples.specs.Triples.{Triple, triples, triple_at}
use Rattle.triples.specs.Replies.{triple_reply, triple_at_reply}
use Rattle.triples.specs.Claims.{CallClaim}
use Rattle.triples.proofs.Complete.{all_triples}

-- ---- a reply has its triple, and is not spent
code : ℕ → Reply → ℕ
code i (served list) = get_or list i 0
code i (refused number) = 0
code i spent = 0

is_spent : Reply → Bool
is_spent (served list) = false
is_spent (refused number) = false
is_spent spent = true

module _ {a b : Triple} (e : triple_reply a ≡ triple_reply b) where
  same : a ≡ b
  unfolding code
  same =
      ap (λ (v : ℕ). record { f = v; g = a.g; h = a.h }) (ap (code 0) e)
      ∙ ap (λ (v : ℕ). record { f = b.f; g = v; h = a.h }) (ap (code 1) e)
      ∙ ap (λ (v : ℕ). record { f = b.f; g = b.g; h = v }) (ap (code 2) e)

not_spent : {triple : Triple} → triple_reply triple ≡ spent → ⊥
unfolding is_spent
not_spent e = true≢false (sym (ap is_spent e))

module _ (n : ℕ) (low : 2 ≤ n) (high : n ≤ 6) where
  below : (j : ℕ) → j < length (triples n) → triple_at_reply n j ≡ triple_reply (triple_at n j)
  unfolding triple_at_reply
  below j h = rw (inside 2 6 low high, lt-ltb j (length (triples n)) h)

  behind : (j : ℕ) → length (triples n) ≤ j → triple_at_reply n j ≡ spent
  unfolding triple_at_reply
  behind j h = rw (inside 2 6 low high, le-ltb j (length (triples n)) h)

  -- at a position where a triple is given, it stands in the list
  given : (j : ℕ) (triple : Triple) → triple_at_reply n j ≡ triple_reply triple → (j < length (triples n)) × (triple_at n j ≡ triple)
  given j triple e = elim (dec_lt j (length (triples n))) [
    | yes h ↦ (h, same (sym (below j h) ∙ e))
    | no h ↦ absurd (not_spent (sym e ∙ behind j (omega arith)))
  ]

  ended : (j : ℕ) → triple_at_reply n j ≡ spent → length (triples n) ≤ j
  ended j e = elim (dec_lt j (length (triples n))) [
    | yes h ↦ absurd (not_spent (sym (below j h) ∙ e))
    | no h ↦ omega arith
  ]

pub call_gives : CallClaim
call_gives n low high = record {
  gives = below n low high;
  ends = λ j. (ended n low high j, behind n low high j);
  coprime = λ j triple e.
      let (h, is) = given n low high j triple e in
      rw is at ((all_triples n).coprime j h);
  once = λ triple c.
      let s = (all_triples n).once triple c in
      record {
        position = s.position;
        given = below n low high s.position s.below ∙ ap triple_reply s.there;
        only = λ j e. let (h, is) = given n low high j triple e in s.only j h is;
      };
}
