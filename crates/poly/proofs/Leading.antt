-- The degree: every nonzero code has one, and one only; the leading digit of a product is the product of the leading digits, so over a
-- field degrees add up and there are no zero divisors.
use mathlib.Core.Logic.{◌⊎◌, inl, inr}
use mathlib.Core.Path.{◌≡◌, refl, sym, ap, ap₂, ◌∙◌}
use Prim.Native.Nat.{ℕ, zero, suc, pred, ◌+◌, ◌*◌, ◌/◌, ◌%◌, ◌^◌, ◌≤◌, ◌<◌}
use native.Mathlib.Nat
use native.Mathlib.Nat.{eq-zero-or-pos, pow-zero, pow-suc, mod-lt, div-add-mod'}
use native.Mathlib.Decide.{dec_lt}
use native.Mathlib.Omega.{arith}
use lib.Arith.{digits_lt}
use lib.Pow.{pow-add}
use Rattle.poly.specs.Code.{fold, add, scale, mul, degree, HasDegree}
use Rattle.poly.specs.Division.{inverse, HasInverses}
use Rattle.poly.proofs.Digits.{p_pos, zero_digit, fold_ind}
use Rattle.poly.proofs.Ring
use Rattle.poly.proofs.Blocks

-- a is c x^k and lower terms, for a digit c
pub record Lead (p k c a : ℕ) : Type 0 where
  pub rest : ℕ
  pub digit : c < p
  pub is : a ≡ c * p ^ k + rest
  pub small : rest < p ^ k

module _ (p : ℕ) (p2 : 2 ≤ p) where
  pow_one : p ^ 1 ≡ p
  pow_one = pow-suc p 0 ∙ ap (λ (v : ℕ). v * p) (pow-zero p) ∙ Nat.one-mul p

  -- ---- there is one
  counted : ℕ → ℕ → Type 0
  counted a s = (a ≡ 0 → s ≡ 0) × (0 < a → HasDegree p (pred s) a × (0 < s))

  digits_counted : (a : ℕ) → counted a (fold p 0 (λ d rest. suc rest) a)
  unfolding counted
  digits_counted =
      fold_ind p p2 0 (λ d rest. suc rest) counted ((λ e. refl), (λ h. absurd (omega arith)))
      (λ x d s hd pos ih. ((λ e. absurd (omega arith)), (λ h. go x d s hd pos ih (eq-zero-or-pos x))))
    where
      go : (x d s : ℕ) → d < p → 0 < x * p + d → counted x s → (x ≡ 0) ⊎ (0 < x) → HasDegree p s (x * p + d) × (0 < suc s)
      go x d s hd pos ih (inl e) =
          let s0 : s ≡ 0 = ih.0 e in
          let v : x * p + d ≡ d = ap (λ (u : ℕ). u * p + d) e ∙ zero_digit p p2 d in
          let o : p ^ 0 ≡ 1 = pow-zero p in
          let i : p ^ 1 ≡ p = pow_one in
          rw s0 (record { low = omega arith; high = omega arith }, omega arith)
      go x d s hd pos ih (inr hx) = (rises x d s hd (ih.1 hx), omega arith)
        where
          rises_low : (x d s : ℕ) → HasDegree p s x × (0 < suc s) → p ^ suc s ≤ x * p + d
          rises_low x d s h =
              let l : p ^ s * p ≤ x * p = Nat.mul-le-mul_right p h.0.low in rw (pow-suc p s) (omega arith)

          rises : (x d s : ℕ) → d < p → HasDegree p (pred s) x × (0 < s) → HasDegree p s (x * p + d)
          rises x d zero hd h = absurd (omega arith)
          rises x d (suc s) hd h = record { low = rises_low x d s h; high = rw (pow-suc p (suc s)) (digits_lt h.0.high hd) }

  pub degree_has : {a : ℕ} → 0 < a → HasDegree p (degree p a) a
  unfolding degree counted
  degree_has {a} h = ((digits_counted a).1 h).0

  -- ---- and one only
  pub degree_le : {m n a b : ℕ} → HasDegree p m a → HasDegree p n b → a ≤ b → m ≤ n
  degree_le {m} {n} {a} {b} hm hn h = go (dec_lt n m)
    where
      go : Dec (n < m) → m ≤ n
      go (yes l) = let up : p ^ suc n ≤ p ^ m = Nat.pow-le-pow_right (p_pos p p2) l in absurd (omega arith)
      go (no l) = omega arith

  pub degree_unique : {m n a : ℕ} → HasDegree p m a → HasDegree p n a → m ≡ n
  degree_unique {a = a} hm hn = Nat.le_antisymm (degree_le hm hn (Nat.le_refl a)) (degree_le hn hm (Nat.le_refl a))

  pub below_degree : (a : ℕ) → a < p ^ suc (degree p a)
  below_degree a = go (eq-zero-or-pos a)
    where
      go : (a ≡ 0) ⊎ (0 < a) → a < p ^ suc (degree p a)
      go (inl e) = Nat.lt_of_le_of_lt (Nat.le_of_eq e) (Blocks.pow_pos p p2 (suc (degree p a)))
      go (inr h) = (degree_has h).high

  pub degree_zero : degree p 0 ≡ 0
  unfolding degree
  degree_zero = refl

  pub degree_lt : (n : ℕ) {a : ℕ} → a < p ^ n → 0 < n → degree p a < n
  degree_lt n {a} h pos = go (eq-zero-or-pos a) (dec_lt (degree p a) n)
    where
      go : (a ≡ 0) ⊎ (0 < a) → Dec (degree p a < n) → degree p a < n
      go (inl e) d = rw (e, degree_zero) pos
      go (inr a_pos) (yes l) = l
      go (inr a_pos) (no l) =
          let up : p ^ n ≤ p ^ degree p a = Nat.pow-le-pow_right (p_pos p p2) (omega arith) in
          absurd (omega (arith, (degree_has a_pos).low))

  pub degree_is : {n a : ℕ} → HasDegree p n a → degree p a ≡ n
  degree_is {n} {a} h = degree_unique (degree_has (Nat.lt_of_lt_of_le (Blocks.pow_pos p p2 n) h.low)) h

  -- what is no constant has degree 1 or more
  pub degree_pos : (n : ℕ) {a : ℕ} → HasDegree p n a → p ≤ a → 0 < n
  degree_pos zero h l = let e : p ^ 1 ≡ p = pow_one in absurd (omega arith)
  degree_pos (suc n) h l = omega arith

  pub p_le_pow : (n : ℕ) → 0 < n → p ≤ p ^ n
  p_le_pow n h = rw pow_one at (Nat.pow-le-pow_right (p_pos p p2) {i = 1} {j = n} h)

  -- ---- the leading digit
  pub lead_pos : {n a : ℕ} → HasDegree p n a → 0 < a / p ^ n
  lead_pos {n} {a} h = (Nat.le-div_iff_mul-le (Blocks.pow_pos p p2 n)).1 (rw (Nat.one-mul (p ^ n)) h.low)

  pub lead_of : {n a : ℕ} → a < p ^ suc n → Lead p n (a / p ^ n) a
  lead_of {n} {a} h =
      record {
        rest = a % p ^ n;
        digit = (Nat.div-lt_iff_lt-mul (Blocks.pow_pos p p2 n)).1 (rw (← Nat.pow-succ' p n) h);
        is = sym (div-add-mod' a (p ^ n));
        small = mod-lt a (Blocks.pow_pos p p2 n);
      }

  pub lead_has : {n c a : ℕ} → Lead p n c a → 0 < c → HasDegree p n a
  lead_has {n} {c} {a} l h =
      let low : 1 * p ^ n ≤ c * p ^ n = Nat.mul-le-mul_right (p ^ n) h in
      let one : 1 * p ^ n ≡ p ^ n = Nat.one-mul (p ^ n) in
      let e : a ≡ c * p ^ n + l.rest = l.is in
      record { low = omega arith; high = rw (l.is, Nat.pow-succ' p n) (digits_lt l.digit l.small) }

  pub lead_zero : {n a : ℕ} → Lead p n 0 a → a < p ^ n
  lead_zero {n} {a} l = rw (l.is, Nat.zero-mul (p ^ n), Nat.zero-add l.rest) l.small

  digit_scale : (c : ℕ) {d : ℕ} → d < p → scale p c d ≡ c * d % p
  digit_scale c {d} h =
      ap (scale p c) (sym (zero_digit p p2 d)) ∙ Ring.scale_cons p p2 c 0 h
      ∙ rw (Ring.scale_zero_right p p2 c) (zero_digit p p2 (c * d % p))

  digit_add : {c d : ℕ} → c < p → d < p → add p c d ≡ (c + d) % p
  digit_add {c} {d} hc hd =
      ap₂ (add p) (sym (zero_digit p p2 c)) (sym (zero_digit p p2 d)) ∙ Ring.add_cons p p2 0 0 hc hd
      ∙ rw (Ring.add_zero_left p p2 0) (zero_digit p p2 ((c + d) % p))

  -- the leading digit of a sum, a multiple, a shift and a product
  pub add_lead : {n c d a b : ℕ} → Lead p n c a → Lead p n d b → Lead p n ((c + d) % p) (add p a b)
  add_lead {n} {c} {d} la lb =
      record {
        rest = add p la.rest lb.rest;
        digit = Ring.reduced p p2 (c + d);
        is =
            ap₂ (add p) la.is lb.is ∙ Blocks.add_block p p2 n c d la.small lb.small
            ∙ rw (digit_add la.digit lb.digit);
        small = Blocks.add_lt p p2 n la.small lb.small;
      }

  pub low_lead : {n c a b : ℕ} → Lead p n c a → b < p ^ n → Lead p n c (add p a b)
  low_lead {n} {c} {a} {b} la h =
      let zero_lead : Lead p n 0 b =
      record {
        rest = b;
        digit = p_pos p p2;
        is = sym (Nat.zero-add b) ∙ ap (λ (v : ℕ). v + b) (sym (Nat.zero-mul (p ^ n)));
        small = h;
      } in
      rw (Nat.add-zero c, Nat.mod-eq_of_lt la.digit) at (add_lead la zero_lead)

  pub scale_lead : {n d a : ℕ} (c : ℕ) → Lead p n d a → Lead p n (c * d % p) (scale p c a)
  scale_lead {n} {d} c la =
      record {
        rest = scale p c la.rest;
        digit = Ring.reduced p p2 (c * d);
        is = ap (scale p c) la.is ∙ Blocks.scale_block p p2 n c d la.small ∙ rw (digit_scale c la.digit);
        small = Blocks.scale_lt p p2 n c la.small;
      }

  pub shift_lead : {n c a : ℕ} (k : ℕ) → Lead p n c a → Lead p (k + n) c (a * p ^ k)
  shift_lead {n} {c} k la =
      record {
        rest = la.rest * p ^ k;
        digit = la.digit;
        is =
            ap (λ (v : ℕ). v * p ^ k) la.is ∙ Nat.add-mul (c * p ^ n) la.rest (p ^ k)
            ∙ ap (λ (v : ℕ). v + la.rest * p ^ k)
            (Nat.mul_assoc c (p ^ n) (p ^ k) ∙ ap (λ (v : ℕ). c * v) (Nat.mul_comm (p ^ n) (p ^ k) ∙ sym (pow-add p k n)));
        small =
            rw (pow-add p k n, Nat.mul_comm (p ^ k) (p ^ n))
            (Nat.mul-lt-mul_of_pos_right la.small (Blocks.pow_pos p p2 k));
      }

  pub add_degree : {n a b : ℕ} → HasDegree p n a → b < p ^ n → HasDegree p n (add p a b)
  add_degree ha h = lead_has (low_lead (lead_of ha.high) h) (lead_pos ha)

  pub shift_degree : {n a : ℕ} (k : ℕ) → HasDegree p n a → HasDegree p (k + n) (a * p ^ k)
  shift_degree k h = lead_has (shift_lead k (lead_of h.high)) (lead_pos h)

  pub mul_lead : {m n c d a b : ℕ} → Lead p m c a → Lead p n d b → Lead p (m + n) (c * d % p) (mul p a b)
  mul_lead {m} {n} {c} {d} {a} {b} la lb =
      let parts : mul p a b ≡ add p (scale p c b * p ^ m) (mul p la.rest b) =
      ap (λ (v : ℕ). mul p v b) (la.is ∙ sym (Blocks.add_parts p p2 m c la.small))
      ∙ Ring.add_mul p p2 (c * p ^ m) la.rest b
      ∙ rw (Blocks.mul_shifts p p2 m c b, Ring.mul_constant p p2 la.digit b) in
      let b_lt : b < p ^ suc n = rw (lb.is, Nat.pow-succ' p n) (digits_lt lb.digit lb.small) in
      rw parts (low_lead (shift_lead m (scale_lead c lb)) (Blocks.mul_lt p p2 m n la.small b_lt))

  -- ---- over a field
  module _ (inverses : HasInverses p) where
    digit_product : {c d : ℕ} → 0 < c → c < p → 0 < d → d < p → 0 < c * d % p
    digit_product {c} {d} c0 cp d0 dp = go (eq-zero-or-pos (c * d % p))
      where
        go : (c * d % p ≡ 0) ⊎ (0 < c * d % p) → 0 < c * d % p
        go (inl e) =
            let c_zero : c ≡ 0 =
            sym (Nat.mod-eq_of_lt cp) ∙ ap (λ (v : ℕ). v % p) (sym (Nat.mul-one c) ∙ ap (λ (v : ℕ). c * v) (sym (inverses d d0 dp)))
            ∙ Ring.mul_mod_mod c (d * inverse p d) p ∙ ap (λ (v : ℕ). v % p) (sym (Nat.mul_assoc c d (inverse p d)))
            ∙ sym (Ring.mod_mul_mod (c * d) (inverse p d) p)
            ∙ rw (e, Nat.zero-mul (inverse p d), Nat.zero-mod p) in
            absurd (omega arith)
        go (inr h) = h

    pub mul_degree : {m n a b : ℕ} → HasDegree p m a → HasDegree p n b → HasDegree p (m + n) (mul p a b)
    mul_degree ha hb =
        let la = lead_of ha.high in
        let lb = lead_of hb.high in
        lead_has (mul_lead la lb) (digit_product (lead_pos ha) la.digit (lead_pos hb) lb.digit)

    pub mul_pos : {a b : ℕ} → 0 < a → 0 < b → 0 < mul p a b
    mul_pos {a} {b} ha hb =
        Nat.lt_of_lt_of_le (Blocks.pow_pos p p2 (degree p a + degree p b)) (mul_degree (degree_has ha) (degree_has hb)).low
