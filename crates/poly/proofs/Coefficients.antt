-- The operations coefficient by coefficient: the sum and the multiple have the sums and multiples of the digits, by induction on the place.
use mathlib.Core.Path.{◌≡◌, sym, ap, ap₂, ◌∙◌}
use Prim.Native.Nat.{ℕ, zero, suc, ◌+◌, ◌*◌, ◌/◌, ◌%◌, ◌^◌, ◌≤◌}
use native.Mathlib.Nat
use lib.Arith.{digits_div, digits_mod}
use Rattle.poly.specs.Code.{add, scale, mul, digit}
use Rattle.poly.proofs.Ring

module _ (p : ℕ) (p2 : 2 ≤ p) where
  digit_zero : (a : ℕ) → digit p a 0 ≡ a % p
  digit_zero a = rw (Nat.pow-zero p, Nat.div-one a)

  digit_suc : (j a : ℕ) → digit p a (suc j) ≡ digit p (a / p) j
  digit_suc j a = rw (Nat.pow-succ' p j) (ap (λ (v : ℕ). v % p) (sym (Nat.div-div-eq-div-mul a p (p ^ j))))

  -- ---- the constant term
  pub constant_add : (a b : ℕ) → add p a b % p ≡ (a % p + b % p) % p
  constant_add a b =
      ap (λ (v : ℕ). v % p) (Ring.add_step p p2 a b)
      ∙ digits_mod (add p (a / p) (b / p)) (Ring.reduced p p2 (a % p + b % p))

  pub constant_mul : (a b : ℕ) → mul p a b % p ≡ a % p * (b % p) % p
  constant_mul a b =
      ap (λ (v : ℕ). v % p) (Ring.mul_step p p2 a b) ∙ constant_add (mul p (a / p) b * p) (scale p (a % p) b)
      ∙ rw (Nat.mul-mod_left (mul p (a / p) b) p, Nat.zero-add (scale p (a % p) b % p), Nat.mod-mod (scale p (a % p) b) p)
      (ap (λ (v : ℕ). v % p) (Ring.scale_step p p2 (a % p) b)
      ∙ digits_mod (scale p (a % p) (b / p)) (Ring.reduced p p2 (a % p * (b % p))))

  -- ---- every coefficient
  pub digit_add : (j a b : ℕ) → digit p (add p a b) j ≡ (digit p a j + digit p b j) % p
  digit_add zero a b =
      digit_zero (add p a b) ∙ constant_add a b
      ∙ ap₂ (λ (u v : ℕ). (u + v) % p) (sym (digit_zero a)) (sym (digit_zero b))
  digit_add (suc j) a b =
      digit_suc j (add p a b)
      ∙ ap (λ (v : ℕ). digit p v j)
      (ap (λ (v : ℕ). v / p) (Ring.add_step p p2 a b) ∙ digits_div (add p (a / p) (b / p)) (Ring.reduced p p2 (a % p + b % p)))
      ∙ digit_add j (a / p) (b / p) ∙ ap₂ (λ (u v : ℕ). (u + v) % p) (sym (digit_suc j a)) (sym (digit_suc j b))

  pub digit_scale : (j c a : ℕ) → digit p (scale p c a) j ≡ c * digit p a j % p
  digit_scale zero c a =
      digit_zero (scale p c a) ∙ ap (λ (v : ℕ). v % p) (Ring.scale_step p p2 c a)
      ∙ digits_mod (scale p c (a / p)) (Ring.reduced p p2 (c * (a % p))) ∙ ap (λ (v : ℕ). c * v % p) (sym (digit_zero a))
  digit_scale (suc j) c a =
      digit_suc j (scale p c a)
      ∙ ap (λ (v : ℕ). digit p v j)
      (ap (λ (v : ℕ). v / p) (Ring.scale_step p p2 c a) ∙ digits_div (scale p c (a / p)) (Ring.reduced p p2 (c * (a % p))))
      ∙ digit_scale j c (a / p) ∙ ap (λ (v : ℕ). c * v % p) (sym (digit_suc j a))
