-- Base-p digits. A number is x * p + d with d < p; what a fold gives there, and induction by that form on one, two and three numbers.
use mathlib.Core.Logic.{◌⊎◌, inl, inr}
use mathlib.Core.Path.{◌≡◌, refl, sym, ap, subst, ◌∙◌}
use Prim.Native.Nat.{ℕ, zero, suc, ◌+◌, ◌*◌, ◌/◌, ◌%◌, ◌≤◌, ◌<◌}
use native.Mathlib.Nat.{zero-mul, zero-add, zero-div, zero-mod, mod-lt, div-add-mod', div-lt_self}
use native.Mathlib.Nat.{eq-zero-or-pos, le_refl, not-suc-le-zero, zero-lt-suc}
use native.Mathlib.Decide.{le_ind}
use native.Mathlib.Omega.{arith}
use lib.Arith.{digits_div, digits_mod}
use Rattle.poly.specs.Code.{fold, fold_in}

module _ (p : ℕ) (p2 : 2 ≤ p) where
  pub p_pos : 0 < p
  p_pos = omega arith

  -- the rest of a number is smaller
  rest_le : (a : ℕ) {n : ℕ} → suc a ≤ suc n → suc a / p ≤ n
  rest_le a {n} h = let l : suc a / p < suc a = div-lt_self (zero-lt-suc a) p2 in omega arith

  pub zero_digit : (d : ℕ) → 0 * p + d ≡ d
  zero_digit d = rw (zero-mul p, zero-add d)

  -- ---- the fold
  module _ {ℓ} {A : Type ℓ} (z : A) (f : ℕ → A → A) where
    more : (k a : ℕ) → a ≤ k → fold_in p z f (suc k) a ≡ fold_in p z f k a
    more zero zero h = refl
    more zero (suc a) h = absurd (not-suc-le-zero h)
    more (suc k) zero h = refl
    more (suc k) (suc a) h = ap (f (suc a % p)) (more k (suc a / p) (rest_le a h))

    enough : (k a : ℕ) → a ≤ k → fold_in p z f k a ≡ fold p z f a
    enough k a h = le_ind (λ (m : ℕ). fold_in p z f m a ≡ fold p z f a) refl (λ m l e. more m a l ∙ e) k h

    -- at a nonzero number
    step : (a : ℕ) → 0 < a → fold p z f a ≡ f (a % p) (fold p z f (a / p))
    step zero h = absurd (not-suc-le-zero h)
    step (suc a) h = ap (f (suc a % p)) (enough a (suc a / p) (rest_le a (le_refl (suc a))))

    cons_pos : (x : ℕ) {d : ℕ} → d < p → 0 < x * p + d → fold p z f (x * p + d) ≡ f d (fold p z f x)
    cons_pos x {d} h pos = step (x * p + d) pos ∙ rw (digits_mod x h, digits_div x h)

    -- at any number, where the digit 0 changes nothing at the end
    pub fold_cons : f 0 z ≡ z → (x : ℕ) {d : ℕ} → d < p → fold p z f (x * p + d) ≡ f d (fold p z f x)
    fold_cons e x {d} h = go (eq-zero-or-pos (x * p + d))
      where
        go : (x * p + d ≡ 0) ⊎ (0 < x * p + d) → fold p z f (x * p + d) ≡ f d (fold p z f x)
        go (inl e0) =
            let x0 : x ≡ 0 = sym (digits_div x h) ∙ ap (λ (v : ℕ). v / p) e0 ∙ zero-div p in
            let d0 : d ≡ 0 = sym (digits_mod x h) ∙ ap (λ (v : ℕ). v % p) e0 ∙ zero-mod p in
            rw (e0, x0, d0) (sym e)
        go (inr pos) = cons_pos x h pos

  -- ---- induction
  pub digit_ind {ℓ} : (P : ℕ → Type ℓ) → P 0 → ((x d : ℕ) → d < p → P x → P (x * p + d)) → (a : ℕ) → P a
  digit_ind P base next a = go a a (le_refl a)
    where
      go : (k a : ℕ) → a ≤ k → P a
      go zero zero h = base
      go zero (suc a) h = absurd (not-suc-le-zero h)
      go (suc k) zero h = base
      go (suc k) (suc a) h =
          subst P (div-add-mod' (suc a) p)
          (next (suc a / p) (suc a % p) (mod-lt (suc a) p_pos) (go k (suc a / p) (rest_le a h)))

  pub digit_ind₂ {ℓ} : (P : ℕ → ℕ → Type ℓ) → P 0 0
      → ((x y d e : ℕ) → d < p → e < p → P x y → P (x * p + d) (y * p + e)) → (a b : ℕ) → P a b
  digit_ind₂ P base next =
      digit_ind (λ a. (b : ℕ) → P a b)
      (digit_ind (P 0) base (λ y e he ih. subst (λ (v : ℕ). P v (y * p + e)) (zero_digit 0) (next 0 y 0 e p_pos he ih)))
      (λ x d hd ih b. subst (P (x * p + d)) (div-add-mod' b p) (next x (b / p) d (b % p) hd (mod-lt b p_pos) (ih (b / p))))

  pub digit_ind₃ {ℓ} : (P : ℕ → ℕ → ℕ → Type ℓ) → P 0 0 0
      → ((x y w d e c : ℕ) → d < p → e < p → c < p → P x y w → P (x * p + d) (y * p + e) (w * p + c)) → (a b g : ℕ) → P a b g
  digit_ind₃ P base next =
      digit_ind₂ (λ a b. (g : ℕ) → P a b g)
      (digit_ind (P 0 0) base (λ w c hc ih. subst (λ (v : ℕ). P v v (w * p + c)) (zero_digit 0) (next 0 0 w 0 0 c p_pos p_pos hc ih)))
      (λ x y d e hd he ih g.
      subst (P (x * p + d) (y * p + e)) (div-add-mod' g p) (next x y (g / p) d e (g % p) hd he (mod-lt g p_pos) (ih (g / p))))

  -- what holds of a fold at 0, and at x * p + d where it holds at x, holds at every number
  pub fold_ind {ℓ κ} : {A : Type ℓ} (z : A) (f : ℕ → A → A) (P : ℕ → A → Type κ) → P 0 z
      → ((x d : ℕ) (r : A) → d < p → 0 < x * p + d → P x r → P (x * p + d) (f d r)) → (a : ℕ) → P a (fold p z f a)
  fold_ind z f P base next = digit_ind (λ a. P a (fold p z f a)) base (λ x d h ih. go x d h ih (eq-zero-or-pos (x * p + d)))
    where
      go : (x d : ℕ) → d < p → P x (fold p z f x) → (x * p + d ≡ 0) ⊎ (0 < x * p + d) → P (x * p + d) (fold p z f (x * p + d))
      go x d h ih (inl e) = rw e base
      go x d h ih (inr pos) = rw (cons_pos z f x h pos) (next x d (fold p z f x) h pos ih)
