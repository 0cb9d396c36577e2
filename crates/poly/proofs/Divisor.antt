-- Divisors and the greatest common divisor. Euclid's algorithm keeps the common divisors, and the last divisor is a combination of the two
-- codes (Bezout); from which: it is a nonzero constant exactly for coprime codes, and Euclid's lemma.
use mathlib.Core.Logic.{◌⊎◌, inl, inr, ◌↔◌}
use mathlib.Core.Path.{◌≡◌, sym, ap, ap₂, ◌∙◌}
use Prim.Native.Nat.{ℕ, zero, suc, ◌+◌, ◌-◌, ◌*◌, ◌^◌, ◌≤◌, ◌<◌}
use native.Mathlib.Nat
use native.Mathlib.Nat.{eq-zero-or-pos}
use native.Mathlib.Decide.{dec_lt}
use native.Mathlib.Omega.{arith}
use Rattle.poly.specs.Code.{add, scale, mul, degree, HasDegree}
use Rattle.poly.specs.Division.{inverse, HasInverses, divide}
use Rattle.poly.specs.Coprime.{Divides, Coprime, gcd, gcd_in}
use Rattle.poly.proofs.Digits.{p_pos}
use Rattle.poly.proofs.Ring
use Rattle.poly.proofs.Leading
use Rattle.poly.proofs.Division

-- g divides a and b, and is a combination of them
pub record Bezout (p a b g : ℕ) : Type 0 where
  pub left : Divides p g a
  pub right : Divides p g b
  pub s : ℕ
  pub t : ℕ
  pub is : add p (mul p s a) (mul p t b) ≡ g

module _ (p : ℕ) (p2 : 2 ≤ p) where
  pub divides_refl : (a : ℕ) → Divides p a a
  divides_refl a = (1, Ring.one_mul p p2 a)

  pub divides_zero : (d : ℕ) → Divides p d 0
  divides_zero d = (0, Ring.mul_zero_left p p2 d)

  pub divides_add : (d a b : ℕ) → Divides p d a → Divides p d b → Divides p d (add p a b)
  divides_add d a b (u, ea) (v, eb) = (add p u v, Ring.add_mul p p2 u v d ∙ ap₂ (add p) ea eb)

  pub divides_mul : (d a c : ℕ) → Divides p d a → Divides p d (mul p c a)
  divides_mul d a c (u, e) = (mul p c u, Ring.mul_assoc p p2 c u d ∙ ap (mul p c) e)

  module _ (inverses : HasInverses p) where
    -- a divisor of degree n divides no nonzero code of a lower degree
    pub divides_small : {n d a : ℕ} → HasDegree p n d → Divides p d a → a < p ^ n → a ≡ 0
    divides_small {n} {d} {a} hd (q, e) h = go (eq-zero-or-pos q)
      where
        go : (q ≡ 0) ⊎ (0 < q) → a ≡ 0
        go (inl q0) = sym e ∙ rw q0 (Ring.mul_zero_left p p2 d)
        go (inr pos) =
            let big = Leading.mul_degree p p2 inverses (Leading.degree_has p p2 pos) hd in
            let up : p ^ n ≤ p ^ (degree p q + n) = Nat.pow-le-pow_right (p_pos p p2) (omega arith) in
            absurd (omega arith)

    -- ---- Euclid's algorithm
    pub gcd_ind {ℓ} : (P : ℕ → ℕ → ℕ → Type ℓ) → ((a : ℕ) → P a 0 a)
        → ((a b g : ℕ) → 0 < b → P b (divide p a b).remainder g → P a b g) → (a b : ℕ) → P a b (gcd p a b)
    unfolding gcd
    gcd_ind P base next a b = go b a b (Nat.le_refl b)
      where
        go : (k a b : ℕ) → b ≤ k → P a b (gcd_in p k a b)
        go zero a zero h = base a
        go zero a (suc b) h = absurd (omega arith)
        go (suc k) a zero h = base a
        go (suc k) a (suc b) h =
            let r : ℕ = (divide p a (suc b)).remainder in
            let r_lt : r < suc b = Division.remainder_lt p p2 inverses a (suc b) (omega arith) in
            next a (suc b) (gcd_in p k (suc b) r) (omega arith) (go k (suc b) r (omega arith))

    pub bezout : (a b : ℕ) → Bezout p a b (gcd p a b)
    bezout =
        gcd_ind (Bezout p)
        (λ a.
        record {
          left = divides_refl a;
          right = divides_zero a;
          s = 1;
          t = 0;
          is = rw (Ring.one_mul p p2 a, Ring.mul_zero_left p p2 0) (Ring.add_zero_right p p2 a);
        })
        (λ a b g pos ih.
        let q : ℕ = (divide p a b).quotient in
        let r : ℕ = (divide p a b).remainder in
        let h = Division.divide_divided p p2 inverses a b pos in
        record {
          left = rw h.sum at (divides_add g (mul p q b) r (divides_mul g b q ih.left) ih.right);
          right = ih.left;
          s = ih.t;
          t = add p ih.s (scale p (p - 1) (mul p ih.t q));
          is = rw h.sum at (combined ih.s ih.t q b r ∙ ih.is);
        })
      where
        -- t (q b + r) + (s - t q) b = s b + t r
        combined : (s t q b r : ℕ)
            → add p (mul p t (add p (mul p q b) r)) (mul p (add p s (scale p (p - 1) (mul p t q))) b) ≡ add p (mul p s b) (mul p t r)
        combined s t q b r =
            ap₂ (add p)
            (Ring.mul_add p p2 t (mul p q b) r ∙ rw (← Ring.mul_assoc p p2 t q b) (Ring.add_comm p p2 (mul p (mul p t q) b) (mul p t r)))
            (Ring.add_mul p p2 s (scale p (p - 1) (mul p t q)) b ∙ rw (Ring.scale_mul p p2 (p - 1) (mul p t q) b))
            ∙ Ring.add_neg_cancel p p2 (mul p t r) (mul p (mul p t q) b) (mul p s b)
            ∙ Ring.add_comm p p2 (mul p t r) (mul p s b)

    -- ---- coprime
    pub coprime_gcd : (a b : ℕ) → Coprime p a b ↔ ((0 < gcd p a b) × (gcd p a b < p))
    coprime_gcd a b = (to, from)
      where
        to : Coprime p a b → (0 < gcd p a b) × (gcd p a b < p)
        to c = (go (eq-zero-or-pos (gcd p a b)), c (gcd p a b) (bezout a b).left (bezout a b).right)
          where
            only_zero : (v : ℕ) → gcd p a b ≡ 0 → Divides p (gcd p a b) v → Divides p p v
            only_zero v e (q, is) = (0, Ring.mul_zero_left p p2 p ∙ sym (Ring.mul_zero_right p p2 q) ∙ rw (← e) is)

            go : (gcd p a b ≡ 0) ⊎ (0 < gcd p a b) → 0 < gcd p a b
            go (inl e) = absurd (Nat.lt_irrefl p (c p (only_zero a e (bezout a b).left) (only_zero b e (bezout a b).right)))
            go (inr pos) = pos

        from : (0 < gcd p a b) × (gcd p a b < p) → Coprime p a b
        from (pos, lt) d da db = go (dec_lt d p)
          where
            common : Divides p d (gcd p a b)
            common =
                rw (bezout a b).is at
                (divides_add d (mul p (bezout a b).s a) (mul p (bezout a b).t b) (divides_mul d a (bezout a b).s da)
                (divides_mul d b (bezout a b).t db))

            go : Dec (d < p) → d < p
            go (yes h) = h
            go (no h) =
                let d_pos : 0 < d = omega arith in
                let has = Leading.degree_has p p2 d_pos in
                let up : p ≤ p ^ degree p d = Leading.p_le_pow p p2 (degree p d) (Leading.degree_pos p p2 (degree p d) has (omega arith)) in
                let none : gcd p a b ≡ 0 = divides_small has common (Nat.lt_of_lt_of_le lt up) in
                absurd (omega arith)

    inverse_lt : (e : ℕ) → inverse p e < p
    unfolding inverse
    inverse_lt e = Ring.reduced p p2 _

    -- a nonzero constant is undone by its inverse
    constant_undone : {e : ℕ} → 0 < e → e < p → (a : ℕ) → mul p (inverse p e) (mul p e a) ≡ a
    constant_undone {e} pos lt a =
        let i : ℕ = inverse p e in
        Ring.mul_constant p p2 (inverse_lt e) (mul p e a)
        ∙ ap (scale p i) (Ring.mul_constant p p2 lt a) ∙ Ring.scale_scale p p2 i e a ∙ sym (Ring.scale_mod p p2 (i * e) a)
        ∙ rw (Nat.mul_comm i e, inverses e pos lt) (Ring.scale_one p p2 a)

    -- Euclid's lemma
    pub euclid : (f g a : ℕ) → Coprime p f g → Divides p f (mul p g a) → Divides p f a
    euclid f g a c h =
        let (pos, lt) = (coprime_gcd f g).0 c in
        let e : ℕ = gcd p f g in
        let b = bezout f g in
        let of_f : Divides p f (mul p (mul p b.s f) a) =
        rw (Ring.mul_comm p p2 a (mul p b.s f)) at
        (divides_mul f (mul p b.s f) a (divides_mul f f b.s (divides_refl f))) in
        let of_g : Divides p f (mul p (mul p b.t g) a) =
        rw (← Ring.mul_assoc p p2 b.t g a) at (divides_mul f (mul p g a) b.t h) in
        let times : Divides p f (mul p e a) =
        rw (← Ring.add_mul p p2 (mul p b.s f) (mul p b.t g) a, b.is) at
        (divides_add f (mul p (mul p b.s f) a) (mul p (mul p b.t g) a) of_f of_g) in
        rw (constant_undone pos lt a) at (divides_mul f (mul p e a) (inverse p e) times)

    pub coprime_comm : (f g : ℕ) → Coprime p f g → Coprime p g f
    coprime_comm f g c d dg df = c d df dg
