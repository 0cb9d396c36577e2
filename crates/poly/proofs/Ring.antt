-- The commutative ring of codes. Each operation has one equation at x * p + d; every law follows from those by induction on digits.
use mathlib.Core.Path.{◌≡◌, refl, sym, ap, ap₂, ◌∙◌, fun_ext}
use Prim.Native.Nat.{ℕ, ◌+◌, ◌-◌, ◌*◌, ◌/◌, ◌%◌, ◌≤◌, ◌<◌}
use native.Mathlib.Nat
use native.Mathlib.Nat.{zero-add, add-zero, zero-mul, mul-zero, zero-mod, mod-mod, mod-lt, mod-add-mod, add-mod-mod, mod-eq_of_lt}
use lib.Arith.{digits_div, digits_mod}
use Rattle.poly.specs.Code.{add, scale, mul}
use Rattle.poly.proofs.Digits.{p_pos, zero_digit, fold_cons, digit_ind, digit_ind₂, digit_ind₃}

-- a factor may be reduced before a product is
pub mul_mod_mod : (c a p : ℕ) → (c * (a % p)) % p ≡ (c * a) % p
mul_mod_mod c a p =
    let e : c * a ≡ c * (a % p) + c * (a / p) * p =
    ap (λ (v : ℕ). c * v) (sym (Nat.mod-add-div' a p)) ∙ Nat.mul-add c (a % p) (a / p * p)
    ∙ ap (λ (v : ℕ). c * (a % p) + v) (sym (Nat.mul_assoc c (a / p) p)) in
    rw e (sym (Nat.add-mul-mod_self_right (c * (a % p)) (c * (a / p)) p))

pub mod_mul_mod : (a c p : ℕ) → (a % p * c) % p ≡ (a * c) % p
mod_mul_mod a c p = ap (λ (v : ℕ). v % p) (Nat.mul_comm (a % p) c) ∙ mul_mod_mod c a p ∙ ap (λ (v : ℕ). v % p) (Nat.mul_comm c a)

module _ (p : ℕ) (p2 : 2 ≤ p) where
  pub reduced : (a : ℕ) → a % p < p
  reduced a = mod-lt a (p_pos p p2)

  -- ---- the operations, digit by digit
  pub add_zero_left : (b : ℕ) → add p 0 b ≡ b
  unfolding add
  add_zero_left b = refl

  pub add_cons : (x y : ℕ) {d e : ℕ} → d < p → e < p → add p (x * p + d) (y * p + e) ≡ add p x y * p + (d + e) % p
  unfolding add
  add_cons x y {d} {e} hd he =
      ap (λ (g : ℕ → ℕ). g (y * p + e))
      (fold_cons p p2 (λ b. b) (λ d rest b. rest (b / p) * p + (d + b % p) % p) stops x hd)
      ∙ rw (digits_div y he, digits_mod y he)
    where
      stops : ◌≡◌ {A = ℕ → ℕ} (λ b. b / p * p + (0 + b % p) % p) (λ b. b)
      stops = fun_ext (λ b. rw (zero-add (b % p), mod-mod b p) (Nat.div-add-mod' b p))

  pub scale_zero_right : (c : ℕ) → scale p c 0 ≡ 0
  unfolding scale
  scale_zero_right c = refl

  pub scale_cons : (c x : ℕ) {d : ℕ} → d < p → scale p c (x * p + d) ≡ scale p c x * p + c * d % p
  unfolding scale
  scale_cons c x {d} h = fold_cons p p2 0 (λ d rest. rest * p + c * d % p) (rw (mul-zero c, zero-mod p, zero_digit p p2 0)) x h

  pub scale_zero : (a : ℕ) → scale p 0 a ≡ 0
  scale_zero =
      digit_ind p p2 (λ a. scale p 0 a ≡ 0) (scale_zero_right 0)
      (λ x d h ih. scale_cons 0 x h ∙ rw (ih, zero-mul d, zero-mod p, zero_digit p p2 0))

  pub mul_zero_left : (b : ℕ) → mul p 0 b ≡ 0
  unfolding mul
  mul_zero_left b = refl

  pub mul_cons : (x b : ℕ) {d : ℕ} → d < p → mul p (x * p + d) b ≡ add p (mul p x b * p) (scale p d b)
  unfolding mul
  mul_cons x b {d} h =
      fold_cons p p2 0 (λ d rest. add p (rest * p) (scale p d b)) (rw (scale_zero b, zero-mul p, add_zero_left 0)) x h

  -- the same at the lowest digit of a number
  pub add_step : (a b : ℕ) → add p a b ≡ add p (a / p) (b / p) * p + (a % p + b % p) % p
  add_step a b =
      ap₂ (add p) (sym (Nat.div-add-mod' a p)) (sym (Nat.div-add-mod' b p)) ∙ add_cons (a / p) (b / p) (reduced a) (reduced b)

  pub scale_step : (c a : ℕ) → scale p c a ≡ scale p c (a / p) * p + c * (a % p) % p
  scale_step c a = ap (scale p c) (sym (Nat.div-add-mod' a p)) ∙ scale_cons c (a / p) (reduced a)

  pub mul_step : (a b : ℕ) → mul p a b ≡ add p (mul p (a / p) b * p) (scale p (a % p) b)
  mul_step a b = ap (λ (v : ℕ). mul p v b) (sym (Nat.div-add-mod' a p)) ∙ mul_cons (a / p) b (reduced a)

  -- ---- the sum
  pub add_zero_right : (a : ℕ) → add p a 0 ≡ a
  add_zero_right =
      digit_ind p p2 (λ a. add p a 0 ≡ a) (add_zero_left 0)
      (λ x d h ih.
      ap (add p (x * p + d)) (sym (zero_digit p p2 0)) ∙ add_cons x 0 h (p_pos p p2) ∙ rw (ih, add-zero d, mod-eq_of_lt h))

  pub add_comm : (a b : ℕ) → add p a b ≡ add p b a
  add_comm =
      digit_ind₂ p p2 (λ a b. add p a b ≡ add p b a) refl
      (λ x y d e hd he ih. add_cons x y hd he ∙ rw (ih, Nat.add_comm d e) (sym (add_cons y x he hd)))

  pub add_assoc : (a b c : ℕ) → add p (add p a b) c ≡ add p a (add p b c)
  add_assoc =
      digit_ind₃ p p2 (λ a b c. add p (add p a b) c ≡ add p a (add p b c)) (rw (add_zero_left 0))
      (λ x y w d e c hd he hc ih. simp (add_cons, ih, mod-add-mod, add-mod-mod, Nat.add_assoc, reduced))

  pub add_left_comm : (a b c : ℕ) → add p a (add p b c) ≡ add p b (add p a c)
  add_left_comm a b c = sym (add_assoc a b c) ∙ ap (λ (v : ℕ). add p v c) (add_comm a b) ∙ add_assoc b a c

  -- ---- times x
  pub add_shift : (a b : ℕ) → add p (a * p) (b * p) ≡ add p a b * p
  add_shift a b =
      ap₂ (add p) (sym (add-zero (a * p))) (sym (add-zero (b * p))) ∙ add_cons a b (p_pos p p2) (p_pos p p2)
      ∙ rw (zero-mod p, add-zero (add p a b * p))

  pub add_shift_cons : (a b : ℕ) {d : ℕ} → d < p → add p (a * p) (b * p + d) ≡ add p a b * p + d
  add_shift_cons a b {d} h =
      ap (λ (v : ℕ). add p v (b * p + d)) (sym (add-zero (a * p))) ∙ add_cons a b (p_pos p p2) h
      ∙ rw (zero-add d, mod-eq_of_lt h)

  pub scale_shift : (c a : ℕ) → scale p c (a * p) ≡ scale p c a * p
  scale_shift c a =
      ap (scale p c) (sym (add-zero (a * p))) ∙ scale_cons c a (p_pos p p2)
      ∙ rw (mul-zero c, zero-mod p, add-zero (scale p c a * p))

  -- ---- a constant times a polynomial
  pub scale_add : (c a b : ℕ) → scale p c (add p a b) ≡ add p (scale p c a) (scale p c b)
  scale_add c =
      digit_ind₂ p p2 (λ a b. scale p c (add p a b) ≡ add p (scale p c a) (scale p c b))
      (simp (add_zero_left, scale_zero_right))
      (λ x y d e hd he ih. simp (add_cons, scale_cons, ih, mul_mod_mod, mod-add-mod, add-mod-mod, Nat.mul-add, reduced))

  pub scale_mod : (c a : ℕ) → scale p (c % p) a ≡ scale p c a
  scale_mod c =
      digit_ind p p2 (λ a. scale p (c % p) a ≡ scale p c a) (simp scale_zero_right)
      (λ x d h ih. simp (scale_cons, ih, mod_mul_mod))

  pub scale_sum : (c e a : ℕ) → scale p (c + e) a ≡ add p (scale p c a) (scale p e a)
  scale_sum c e =
      digit_ind p p2 (λ a. scale p (c + e) a ≡ add p (scale p c a) (scale p e a)) (simp (scale_zero_right, add_zero_left))
      (λ x d h ih. simp (scale_cons, add_cons, ih, mod-add-mod, add-mod-mod, Nat.add-mul, reduced))

  pub scale_scale : (c e a : ℕ) → scale p c (scale p e a) ≡ scale p (c * e) a
  scale_scale c e =
      digit_ind p p2 (λ a. scale p c (scale p e a) ≡ scale p (c * e) a) (simp scale_zero_right)
      (λ x d h ih. simp (scale_cons, ih, mul_mod_mod, Nat.mul_assoc, reduced))

  pub scale_one : (a : ℕ) → scale p 1 a ≡ a
  scale_one =
      digit_ind p p2 (λ a. scale p 1 a ≡ a) (scale_zero_right 1)
      (λ x d h ih. simp (scale_cons, ih, Nat.one-mul, mod-eq_of_lt))

  pub scale_p : (a : ℕ) → scale p p a ≡ 0
  scale_p a = sym (scale_mod p a) ∙ rw (Nat.mod_self p) (scale_zero a)

  -- ---- the product
  pub mul_zero_right : (a : ℕ) → mul p a 0 ≡ 0
  mul_zero_right =
      digit_ind p p2 (λ a. mul p a 0 ≡ 0) (mul_zero_left 0)
      (λ x d h ih. simp (mul_cons, ih, scale_zero_right, zero-mul, add_zero_left))

  pub mul_cons_right : (a y : ℕ) {e : ℕ} → e < p → mul p a (y * p + e) ≡ add p (mul p a y * p) (scale p e a)
  mul_cons_right a y {e} he =
      digit_ind p p2 (λ a. mul p a (y * p + e) ≡ add p (mul p a y * p) (scale p e a))
      (simp (mul_zero_left, zero-mul, scale_zero_right, add_zero_left))
      (λ x d hd ih. simp (mul_cons, ih, scale_cons, add_shift_cons, add_assoc, add_comm, add_left_comm, Nat.mul_comm e d, reduced)) a

  pub mul_comm : (a b : ℕ) → mul p a b ≡ mul p b a
  mul_comm a b =
      digit_ind p p2 (λ a. mul p a b ≡ mul p b a) (simp (mul_zero_left, mul_zero_right))
      (λ x d h ih. simp (mul_cons, mul_cons_right, ih)) a

  pub mul_shift : (a b : ℕ) → mul p (a * p) b ≡ mul p a b * p
  mul_shift a b =
      ap (λ (v : ℕ). mul p v b) (sym (add-zero (a * p))) ∙ mul_cons a b (p_pos p p2)
      ∙ rw (scale_zero b, add_zero_right (mul p a b * p))

  pub mul_add : (a b c : ℕ) → mul p a (add p b c) ≡ add p (mul p a b) (mul p a c)
  mul_add a b c =
      digit_ind p p2 (λ a. mul p a (add p b c) ≡ add p (mul p a b) (mul p a c)) (simp (mul_zero_left, add_zero_left))
      (λ x d h ih. simp (mul_cons, ih, ← add_shift, scale_add, add_assoc, add_left_comm)) a

  pub add_mul : (a b c : ℕ) → mul p (add p a b) c ≡ add p (mul p a c) (mul p b c)
  add_mul a b c = mul_comm (add p a b) c ∙ mul_add c a b ∙ ap₂ (add p) (mul_comm c a) (mul_comm c b)

  pub scale_mul : (e a b : ℕ) → mul p (scale p e a) b ≡ scale p e (mul p a b)
  scale_mul e a b =
      digit_ind p p2 (λ a. mul p (scale p e a) b ≡ scale p e (mul p a b)) (simp (scale_zero_right, mul_zero_left))
      (λ x d h ih. simp (scale_cons, mul_cons, ih, scale_add, scale_shift, scale_scale, scale_mod, reduced)) a

  pub mul_assoc : (a b c : ℕ) → mul p (mul p a b) c ≡ mul p a (mul p b c)
  mul_assoc a b c =
      digit_ind p p2 (λ a. mul p (mul p a b) c ≡ mul p a (mul p b c)) (simp mul_zero_left)
      (λ x d h ih. simp (mul_cons, add_mul, mul_shift, scale_mul, ih)) a

  pub mul_constant : {c : ℕ} → c < p → (a : ℕ) → mul p c a ≡ scale p c a
  mul_constant {c} h a =
      ap (λ (v : ℕ). mul p v a) (sym (zero_digit p p2 c)) ∙ mul_cons 0 a h ∙ simp (mul_zero_left, zero-mul, add_zero_left)

  pub one_mul : (a : ℕ) → mul p 1 a ≡ a
  one_mul a = mul_constant p2 a ∙ scale_one a

  -- ---- the negative: p - 1 times
  pub add_neg : (a : ℕ) → add p a (scale p (p - 1) a) ≡ 0
  add_neg a =
      ap (λ (v : ℕ). add p v (scale p (p - 1) a)) (sym (scale_one a)) ∙ sym (scale_sum 1 (p - 1) a)
      ∙ ap (λ (v : ℕ). scale p v a) (Nat.add-sub_of_le (p_pos p p2)) ∙ scale_p a

  pub add_cancel : (a b c : ℕ) → add p a b ≡ add p a c → b ≡ c
  add_cancel a b c e = sym (undo b) ∙ ap (add p (scale p (p - 1) a)) e ∙ undo c
    where
      undo : (v : ℕ) → add p (scale p (p - 1) a) (add p a v) ≡ v
      undo v =
          sym (add_assoc (scale p (p - 1) a) a v)
          ∙ ap (λ (u : ℕ). add p u v) (add_comm (scale p (p - 1) a) a ∙ add_neg a) ∙ add_zero_left v

  pub add_neg_zero : (a b : ℕ) → add p a (scale p (p - 1) b) ≡ 0 → a ≡ b
  add_neg_zero a b e =
      let neg : ℕ = scale p (p - 1) b in
      add_cancel neg a b (add_comm neg a ∙ e ∙ sym (add_comm neg b ∙ add_neg b))

  pub add_neg_cancel : (a b c : ℕ) → add p (add p a b) (add p c (scale p (p - 1) b)) ≡ add p a c
  add_neg_cancel a b c =
      let neg : ℕ = scale p (p - 1) b in
      add_assoc a b (add p c neg)
      ∙ ap (add p a) (add_left_comm b c neg ∙ ap (add p c) (add_neg b) ∙ add_zero_right c)
