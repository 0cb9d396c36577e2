-- Laws of codes that squares need besides poly's: the operations on high and on low digits, differences, and factors over a field.
use mathlib.Core.Logic.{◌⊎◌, inl, inr}
use mathlib.Core.Path.{◌≡◌, sym, ap, ap₂, ◌∙◌}
use Prim.Native.Nat.{ℕ, ◌+◌, ◌-◌, ◌*◌, ◌/◌, ◌%◌, ◌^◌, ◌≤◌, ◌<◌}
use native.Mathlib.Nat
use native.Mathlib.Nat.{eq-zero-or-pos, mod-lt, div-add-mod'}
use native.Mathlib.Omega.{arith}
use lib.Arith.{digits_div, digits_mod}
use Rattle.poly.specs.Code.{add, scale, mul, degree, HasDegree}
use Rattle.poly.specs.Division.{HasInverses}
use Rattle.poly.proofs.Digits.{zero_digit}
use Rattle.poly.proofs.Ring
use Rattle.poly.proofs.Blocks
use Rattle.poly.proofs.Leading

-- two digits are told by the number they make
pub digits_unique : (a c : ℕ) {m b d : ℕ} → b < m → d < m → a * m + b ≡ c * m + d → (a ≡ c) × (b ≡ d)
digits_unique a c {m} hb hd e = (
  sym (digits_div a hb) ∙ ap (λ (v : ℕ). v / m) e ∙ digits_div c hd,
  sym (digits_mod a hb) ∙ ap (λ (v : ℕ). v % m) e ∙ digits_mod c hd,
)

-- a minus b
abbrev pub minus : ℕ → ℕ → ℕ → ℕ
minus p a b = add p a (scale p (p - 1) b)

module _ (p : ℕ) (p2 : 2 ≤ p) where
  -- ---- the operations on high digits and on low ones
  module _ (k : ℕ) where
    pub low_lt : (a : ℕ) → a % p ^ k < p ^ k
    low_lt a = mod-lt a (Blocks.pow_pos p p2 k)

    add_split : (a b : ℕ) → add p a b ≡ add p (a / p ^ k) (b / p ^ k) * p ^ k + add p (a % p ^ k) (b % p ^ k)
    add_split a b =
        ap₂ (add p) (sym (div-add-mod' a (p ^ k))) (sym (div-add-mod' b (p ^ k)))
        ∙ Blocks.add_block p p2 k (a / p ^ k) (b / p ^ k) (low_lt a) (low_lt b)

    pub add_div : (a b : ℕ) → add p a b / p ^ k ≡ add p (a / p ^ k) (b / p ^ k)
    add_div a b = ap (λ (v : ℕ). v / p ^ k) (add_split a b) ∙ digits_div _ (Blocks.add_lt p p2 k (low_lt a) (low_lt b))

    pub add_mod : (a b : ℕ) → add p a b % p ^ k ≡ add p (a % p ^ k) (b % p ^ k)
    add_mod a b = ap (λ (v : ℕ). v % p ^ k) (add_split a b) ∙ digits_mod _ (Blocks.add_lt p p2 k (low_lt a) (low_lt b))

    scale_split : (c a : ℕ) → scale p c a ≡ scale p c (a / p ^ k) * p ^ k + scale p c (a % p ^ k)
    scale_split c a =
        ap (scale p c) (sym (div-add-mod' a (p ^ k))) ∙ Blocks.scale_block p p2 k c (a / p ^ k) (low_lt a)

    pub scale_div : (c a : ℕ) → scale p c a / p ^ k ≡ scale p c (a / p ^ k)
    scale_div c a = ap (λ (v : ℕ). v / p ^ k) (scale_split c a) ∙ digits_div _ (Blocks.scale_lt p p2 k c (low_lt a))

    pub scale_mod : (c a : ℕ) → scale p c a % p ^ k ≡ scale p c (a % p ^ k)
    scale_mod c a = ap (λ (v : ℕ). v % p ^ k) (scale_split c a) ∙ digits_mod _ (Blocks.scale_lt p p2 k c (low_lt a))

    pub minus_lt : {a b : ℕ} → a < p ^ k → b < p ^ k → minus p a b < p ^ k
    minus_lt ha hb = Blocks.add_lt p p2 k ha (Blocks.scale_lt p p2 k (p - 1) hb)

    -- times x^k, on the right
    pub mul_shift_right : (a b : ℕ) → mul p a (b * p ^ k) ≡ mul p a b * p ^ k
    mul_shift_right a b =
        Ring.mul_comm p p2 a (b * p ^ k) ∙ Blocks.mul_shifts p p2 k b a ∙ ap (λ (v : ℕ). v * p ^ k) (Ring.mul_comm p p2 b a)

  pub mul_left_comm : (a b c : ℕ) → mul p a (mul p b c) ≡ mul p b (mul p a c)
  mul_left_comm a b c =
      sym (Ring.mul_assoc p p2 a b c) ∙ ap (λ (v : ℕ). mul p v c) (Ring.mul_comm p p2 a b) ∙ Ring.mul_assoc p p2 b a c

  pub digit_mul : {c d : ℕ} → c < p → d < p → mul p c d ≡ c * d % p
  digit_mul {c} {d} hc hd =
      Ring.mul_constant p p2 hc d ∙ ap (scale p c) (sym (zero_digit p p2 d)) ∙ Ring.scale_cons p p2 c 0 hd
      ∙ rw (Ring.scale_zero_right p p2 c) (zero_digit p p2 (c * d % p))

  pub degree_nonzero : {n a : ℕ} → HasDegree p n a → 0 < a
  degree_nonzero {n} has = Nat.lt_of_lt_of_le (Blocks.pow_pos p p2 n) has.low

  -- ---- factors over a field
  module _ (inverses : HasInverses p) where
    pub mul_zero_factor : {a b : ℕ} → 0 < b → mul p a b ≡ 0 → a ≡ 0
    mul_zero_factor {a} {b} pos e = go (eq-zero-or-pos a)
      where
        go : (a ≡ 0) ⊎ (0 < a) → a ≡ 0
        go (inl z) = z
        go (inr h) = let m : 0 < mul p a b = Leading.mul_pos p p2 inverses h pos in absurd (omega arith)

    -- the degree of a factor
    pub factor_degree : {e m b : ℕ} (a : ℕ) → HasDegree p e b → HasDegree p m (mul p a b)
        → HasDegree p (degree p a) a × (degree p a + e ≡ m)
    factor_degree {e} {m} {b} a has_b has =
        (has_a, Leading.degree_unique p p2 (Leading.mul_degree p p2 inverses has_a has_b) has)
      where
        a_pos : (a ≡ 0) ⊎ (0 < a) → 0 < a
        a_pos (inl z) =
            let none : mul p a b ≡ 0 = rw z (Ring.mul_zero_left p p2 b) in
            let some : 0 < mul p a b = degree_nonzero has in
            absurd (omega arith)
        a_pos (inr h) = h

        has_a : HasDegree p (degree p a) a
        has_a = Leading.degree_has p p2 (a_pos (eq-zero-or-pos a))
