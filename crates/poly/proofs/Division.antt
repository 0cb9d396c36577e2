-- Division with remainder. Long division keeps "quotient times divisor plus remainder is what was brought down", with a small remainder;
-- and only one quotient and remainder do, since degrees add up.
use mathlib.Core.Logic.{◌⊎◌, inl, inr}
use mathlib.Core.Path.{◌≡◌, sym, ap, ap₂, ◌∙◌}
use Prim.Native.Nat.{ℕ, zero, suc, ◌+◌, ◌-◌, ◌*◌, ◌/◌, ◌%◌, ◌^◌, ◌≤◌, ◌<◌}
use native.Mathlib.Nat
use native.Mathlib.Nat.{eq-zero-or-pos, mod-add-mod, add-mod-mod}
use native.Mathlib.Omega.{arith}
use lib.Arith.{digits_lt}
use Rattle.poly.specs.Code.{add, scale, mul, degree, HasDegree}
use Rattle.poly.specs.Division.{inverse, HasInverses, Division, bring_down, divide}
use Rattle.poly.proofs.Digits.{p_pos, fold_ind}
use Rattle.poly.proofs.Ring
use Rattle.poly.proofs.Blocks
use Rattle.poly.proofs.Leading

-- q and r are quotient and remainder of a by b, which has degree n
pub record Divided (p n a b q r : ℕ) : Type 0 where
  pub sum : add p (mul p q b) r ≡ a
  pub small : r < p ^ n

module _ (p : ℕ) (p2 : 2 ≤ p) (inverses : HasInverses p) where
  -- the digit c of the quotient clears the leading digit u
  clears : {u e : ℕ} → u < p → 0 < e → e < p → (u + (p - u * inverse p e % p) * e % p) % p ≡ 0
  clears {u} {e} hu e0 ep =
      let c : ℕ = u * inverse p e % p in
      let back : c * e % p ≡ u =
      Ring.mod_mul_mod (u * inverse p e) e p
      ∙ ap (λ (v : ℕ). v % p) (Nat.mul_assoc u (inverse p e) e ∙ ap (λ (v : ℕ). u * v) (Nat.mul_comm (inverse p e) e))
      ∙ sym (Ring.mul_mod_mod u (e * inverse p e) p) ∙ rw (inverses e e0 ep, Nat.mul-one u) (Nat.mod-eq_of_lt hu) in
      let le : c ≤ p = Nat.le_of_lt (Ring.reduced p p2 (u * inverse p e)) in
      ap (λ (v : ℕ). (v + (p - c) * e % p) % p) (sym back) ∙ mod-add-mod (c * e) p ((p - c) * e % p)
      ∙ add-mod-mod (c * e) ((p - c) * e) p ∙ ap (λ (v : ℕ). v % p) (sym (Nat.add-mul c (p - c) e))
      ∙ rw (Nat.add-sub_of_le le) (Nat.mul-mod_right p e)

  -- taking b away c times from r, and b c times more in the quotient, leaves the sum
  kept : (q r c b : ℕ) → c < p
      → add p (mul p (q * p + c) b) (add p r (scale p (p - c) b)) ≡ add p (mul p q b * p) r
  kept q r c b h =
      let away : ℕ = scale p (p - c) b in
      let gone : add p (scale p c b) away ≡ 0 =
      sym (Ring.scale_sum p p2 c (p - c) b) ∙ rw (Nat.add-sub_of_le (Nat.le_of_lt h)) (Ring.scale_p p p2 b) in
      ap (λ (v : ℕ). add p v (add p r away)) (Ring.mul_cons p p2 q b h)
      ∙ Ring.add_assoc p p2 (mul p q b * p) (scale p c b) (add p r away)
      ∙ ap (add p (mul p q b * p)) (Ring.add_left_comm p p2 (scale p c b) r away ∙ rw gone (Ring.add_zero_right p p2 r))

  brings : (b x d : ℕ) (so_far : Division) → 0 < b → d < p → Divided p (degree p b) x b so_far.quotient so_far.remainder
      → Divided p (degree p b) (x * p + d) b (bring_down p b d so_far).quotient (bring_down p b d so_far).remainder
  unfolding bring_down
  brings b x d so_far hb hd ih =
      let n : ℕ = degree p b in
      let r : ℕ = so_far.remainder * p + d in
      let c : ℕ = (r / p ^ n) * inverse p (b / p ^ n) % p in
      let b_has = Leading.degree_has p p2 hb in
      let b_lead = Leading.lead_of p p2 b_has.high in
      let r_lt : r < p ^ suc n = rw (Nat.pow-suc p n) (digits_lt ih.small hd) in
      let r_lead = Leading.lead_of p p2 r_lt in
      record {
        sum =
            kept so_far.quotient r c b (Ring.reduced p p2 ((r / p ^ n) * inverse p (b / p ^ n)))
            ∙ Ring.add_shift_cons p p2 (mul p so_far.quotient b) so_far.remainder hd ∙ rw ih.sum;
        small =
            Leading.lead_zero p p2
            (rw (clears r_lead.digit (Leading.lead_pos p p2 b_has) b_lead.digit) at
            (Leading.add_lead p p2 r_lead (Leading.scale_lead p p2 (p - c) b_lead)));
      }

  pub divide_divided : (a b : ℕ) → 0 < b → Divided p (degree p b) a b (divide p a b).quotient (divide p a b).remainder
  unfolding divide
  divide_divided a zero h = absurd (omega arith)
  divide_divided a (suc b) h =
      fold_ind p p2 (record { quotient = 0; remainder = 0 }) (bring_down p (suc b))
      (λ x so_far. Divided p (degree p (suc b)) x (suc b) so_far.quotient so_far.remainder)
      (record {
        sum = rw (Ring.mul_zero_left p p2 (suc b)) (Ring.add_zero_left p p2 0);
        small = Blocks.pow_pos p p2 (degree p (suc b));
      })
      (λ x d so_far hd pos ih. brings (suc b) x d so_far h hd ih) a

  -- ---- only one
  pub divided_unique : {n a b q r q' r' : ℕ} → HasDegree p n b → Divided p n a b q r → Divided p n a b q' r' → (q ≡ q') × (r ≡ r')
  divided_unique {n} {a} {b} {q} {r} {q'} {r'} hb h h' = go (eq-zero-or-pos u)
    where
      u : ℕ
      u = add p q (scale p (p - 1) q')

      -- the difference of the quotients times b is the difference of the remainders
      differences : mul p u b ≡ add p r' (scale p (p - 1) r)
      differences =
          Ring.add_cancel p p2 (add p (mul p q' b) r) (mul p u b) (add p r' (scale p (p - 1) r))
          (ap₂ (add p) (Ring.add_comm p p2 (mul p q' b) r)
          (Ring.add_mul p p2 q (scale p (p - 1) q') b ∙ rw (Ring.scale_mul p p2 (p - 1) q' b))
          ∙ Ring.add_neg_cancel p p2 r (mul p q' b) (mul p q b) ∙ Ring.add_comm p p2 r (mul p q b) ∙ h.sum
          ∙ sym (Ring.add_neg_cancel p p2 (mul p q' b) r r' ∙ h'.sum))

      small : mul p u b < p ^ n
      small = rw differences (Blocks.add_lt p p2 n h'.small (Blocks.scale_lt p p2 n (p - 1) h.small))

      go : (u ≡ 0) ⊎ (0 < u) → (q ≡ q') × (r ≡ r')
      go (inl e) =
          let qs : q ≡ q' = Ring.add_neg_zero p p2 q q' e in
          (qs, Ring.add_cancel p p2 (mul p q b) r r' (h.sum ∙ sym h'.sum ∙ rw qs))
      go (inr pos) =
          let big = Leading.mul_degree p p2 inverses (Leading.degree_has p p2 pos) hb in
          let up : p ^ n ≤ p ^ (degree p u + n) = Nat.pow-le-pow_right (p_pos p p2) (omega arith) in
          absurd (omega (arith, small))

  -- ---- the remainder
  pub remainder_lt : (a b : ℕ) → 0 < b → (divide p a b).remainder < b
  remainder_lt a b h = Nat.lt_of_lt_of_le (divide_divided a b h).small (Leading.degree_has p p2 h).low

  -- what is a quotient and remainder is the one that `divide` gives
  pub divide_is : {n a b q r : ℕ} → HasDegree p n b → Divided p n a b q r → (q ≡ (divide p a b).quotient) × (r ≡ (divide p a b).remainder)
  divide_is {n} {a} {b} hb h =
      let b_pos : 0 < b = Nat.lt_of_lt_of_le (Blocks.pow_pos p p2 n) hb.low in
      divided_unique hb h (rw (Leading.degree_is p p2 hb) at (divide_divided a b b_pos))
