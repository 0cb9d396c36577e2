-- `quotients` meets its contract: the causes in their order, and then the divisions, for whose quotients 32 places are enough.
use mathlib.Core.Bool.{false}
use mathlib.Core.List.{List, [], ◌∷◌, ◌++◌}
use mathlib.Core.Path.{◌≡◌, sym, ap, ap₂, ◌∙◌}
use Prim.Native.Nat.{ℕ, ◌^◌, ◌≤◌, ◌<◌}
use native.Mathlib.Nat.{le_refl, zero-add}
use native.Mathlib.Omega.{arith}
use borrow.Author.Rules.{rules}
use borrow.Author.Tests.{lt-ltb, le-ltb}
use Rattle.std.proofs.lemmas.Result.{err_from_is_err_and}
use lib.ListN.{length, drop}
use lib.Seq.{sets, sets-eq}
use Rattle.reply.specs.Reply.{Reply, served, refused, after}
use Rattle.reply.proofs.Order.{passed, failed, kept}
use Rattle.poly.specs.Limits.{outside}
use Rattle.poly.specs.Causes.{code_causes}
use Rattle.poly.specs.Replies.{check_pair_reply}
use Rattle.poly.proofs.Primes.{inverses_2}
use Rattle.euclid.specs.Chain.{chain}
use Rattle.euclid.specs.Replies.{chain_reply, chain_content}
use Rattle.euclid.proofs.Chains.{chain_length}
use Rattle.euclid.proofs.quotients.Goals as goal

module _ (n f g : ℕ) (out : List ℕ) where
  abbrev qs : List ℕ
  qs = (chain 2 f g).quotients

  abbrev Refuses : ℕ → Type 0
  Refuses k = (refused k ≡ chain_reply n f g (length out)) × (out ≡ chain_content n f g out)

  refuses : {k : ℕ} → refused k ≡ chain_reply n f g (length out) → Refuses k
  refuses e = (e, kept e ((chain 2 f g).quotients ++ drop (length (chain 2 f g).quotients) out) out)

  module _ (degree : outside 1 31 n ≡ false) where
    bad-code : {k : ℕ} → refused k ≡ check_pair_reply n f g → Refuses k
    bad-code e = refuses (rw degree (failed _ _ (code_causes n f ++ code_causes n g) e))

    module _ (codes : served [] ≡ check_pair_reply n f g) where
      short : length out < 32 → Refuses 4
      short l = refuses (rw (degree, passed _ _ (code_causes n f ++ code_causes n g) codes, lt-ltb (length out) 32 l))

      done : 32 ≤ length out → g < 2 ^ 32
          → (served (length qs ∷ (chain 2 f g).divisor ∷ []) ≡ chain_reply n f g (length out))
          × (sets out 0 qs ≡ chain_content n f g out)
      done l fits =
          let e : chain_reply n f g (length out) ≡ served (length qs ∷ (chain 2 f g).divisor ∷ []) =
          rw (degree, passed _ _ (code_causes n f ++ code_causes n g) codes, le-ltb (length out) 32 l) in
          let few : length qs ≤ 32 = chain_length 2 (le_refl 2) inverses_2 f g 32 fits in (
            sym e,
            sets-eq qs out 0 (omega arith) ∙ rw zero-add (sym (ap (λ (r : Reply). after r (qs ++ drop (length qs) out) out) e)),
          )

pub returns-in_err-check_pair : goal.returns-in_err-check_pair
returns-in_err-check_pair c =
    let a = c.args in
    let p = err_from_is_err_and c.from_residual.result c.from_residual.ensures.1 in
    let r = bad-code a.n a.f a.g a.out.now (sym c.outside.ensures ∙ c.if-outside.false) c.in_err-check_pair.ensures in
    record { reply = rw (p.1, p.2) r.0; content = r.1 }

pub returns-then-out-lt32 : goal.returns-then-out-lt32
returns-then-out-lt32 c =
    let a = c.args in
    let r = short a.n a.f a.g a.out.now (sym c.outside.ensures ∙ c.if-outside.false)
    c.in_ok-check_pair.ensures (omega arith) in
    record { reply = r.0; content = r.1 }

pub divisions-requires : goal.divisions-requires
divisions-requires c =
    let a = c.args in
    omega (arith, chain_length 2 (le_refl 2) inverses_2 a.f a.g 32 (search rules))

pub returns : goal.returns
returns c =
    let a = c.args in
    let d = c.divisions.ensures in
    let r = done a.n a.f a.g a.out.now
    (sym c.outside.ensures ∙ c.if-outside.false)
    c.in_ok-check_pair.ensures c.if-out-lt32.false c.ranges.g.fits in
    record { reply = ap₂ (λ (u v : ℕ). served (u ∷ v ∷ [])) d.counted d.divisor ∙ r.0; content = d.written ∙ r.1 }
