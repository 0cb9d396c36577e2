-- One division by `poly::divide` is one step of Euclid's algorithm: in the chain, in the greatest common divisor, and in what falls.
use mathlib.Core.Path.{◌≡◌, sym, ap, ◌∙◌}
use Prim.Native.Nat.{ℕ, ◌<◌}
use native.Mathlib.Nat.{le_refl, pos_of_ne-zero}
use Rattle.poly.specs.Division.{divide}
use Rattle.poly.specs.Coprime.{gcd}
use Rattle.poly.specs.Replies.{division_of}
use Rattle.poly.specs.declared.arithmetic.Divided.{Divided}
use Rattle.poly.proofs.Division.{remainder_lt}
use Rattle.poly.proofs.Primes.{inverses_2}
use Rattle.euclid.specs.Chain.{chain}
use Rattle.euclid.proofs.Chains.{link, chain_step, gcd_step}

module _ (a b : ℕ) {d : Divided} (nonzero : b ≡ 0 → ⊥) (divides : division_of d ≡ divide 2 a b) where
  pub divided_chain : chain 2 a b ≡ link d.quotient (chain 2 b d.remainder)
  divided_chain =
      chain_step 2 (le_refl 2) inverses_2 a b (pos_of_ne-zero nonzero)
      ∙ sym (ap (λ v. link v.quotient (chain 2 b v.remainder)) divides)

  pub divided_gcd : gcd 2 a b ≡ gcd 2 b d.remainder
  divided_gcd =
      gcd_step 2 (le_refl 2) inverses_2 a b (pos_of_ne-zero nonzero) ∙ sym (ap (λ v. gcd 2 b v.remainder) divides)

  pub divided_less : d.remainder < b
  divided_less = rw (ap (λ v. v.remainder) divides) (remainder_lt 2 (le_refl 2) inverses_2 a b (pos_of_ne-zero nonzero))
