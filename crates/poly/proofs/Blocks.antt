-- Times x^k, and a code as its k low digits and the rest. The operations work on the two parts apart, by induction on k.
use mathlib.Core.Path.{◌≡◌, sym, ap, ap₂, ◌∙◌}
use Prim.Native.Nat.{ℕ, zero, suc, ◌+◌, ◌*◌, ◌/◌, ◌%◌, ◌^◌, ◌≤◌, ◌<◌}
use native.Mathlib.Nat
use native.Mathlib.Nat.{add-zero, zero-add, zero-mul, pow-zero, pow-suc, div-add-mod', div-lt_iff_lt-mul}
use native.Mathlib.Omega.{arith}
use lib.Arith.{digits_lt, lt-one}
use Rattle.poly.specs.Code.{add, scale, mul}
use Rattle.poly.proofs.Digits.{p_pos}
use Rattle.poly.proofs.Ring

module _ (p : ℕ) (p2 : 2 ≤ p) where
  pub pow_pos : (k : ℕ) → 0 < p ^ k
  pow_pos k = Nat.one-le-pow k p (p_pos p p2)

  pub shift_suc : (a k : ℕ) → a * p ^ suc k ≡ a * p ^ k * p
  shift_suc a k = ap (λ (v : ℕ). a * v) (pow-suc p k) ∙ sym (Nat.mul_assoc a (p ^ k) p)

  -- the lowest digit of k + 1, and the others
  low_lt : {a : ℕ} (k : ℕ) → a < p ^ suc k → a / p < p ^ k
  low_lt {a} k h = (div-lt_iff_lt-mul (p_pos p p2)).1 (rw (pow-suc p k) at h)

  block_cons : (a k r : ℕ) → a * p ^ suc k + r ≡ (a * p ^ k + r / p) * p + r % p
  block_cons a k r =
      ap₂ ◌+◌ (shift_suc a k) (sym (div-add-mod' r p)) ∙ sym (Nat.add_assoc (a * p ^ k * p) (r / p * p) (r % p))
      ∙ ap (λ (v : ℕ). v + r % p) (sym (Nat.add-mul (a * p ^ k) (r / p) p))

  only_zero : {a : ℕ} → a < p ^ 0 → a ≡ 0
  only_zero h = lt-one (rw (pow-zero p) at h)

  -- ---- size
  pub add_lt : (k : ℕ) {a b : ℕ} → a < p ^ k → b < p ^ k → add p a b < p ^ k
  add_lt zero {a} {b} ha hb = rw (only_zero ha, only_zero hb, Ring.add_zero_left p p2 0) (pow_pos 0)
  add_lt (suc k) {a} {b} ha hb =
      rw (Ring.add_step p p2 a b, pow-suc p k)
      (digits_lt (add_lt k (low_lt k ha) (low_lt k hb)) (Ring.reduced p p2 (a % p + b % p)))

  pub scale_lt : (k c : ℕ) {a : ℕ} → a < p ^ k → scale p c a < p ^ k
  scale_lt zero c {a} h = rw (only_zero h, Ring.scale_zero_right p p2 c) (pow_pos 0)
  scale_lt (suc k) c {a} h =
      rw (Ring.scale_step p p2 c a, pow-suc p k) (digits_lt (scale_lt k c (low_lt k h)) (Ring.reduced p p2 (c * (a % p))))

  -- ---- the two parts
  pub add_block : (k a b : ℕ) {r s : ℕ} → r < p ^ k → s < p ^ k
      → add p (a * p ^ k + r) (b * p ^ k + s) ≡ add p a b * p ^ k + add p r s
  add_block zero a b {r} {s} hr hs =
      rw (only_zero hr, only_zero hs) (simp (pow-zero, Nat.mul-one, add-zero, Ring.add_zero_left p p2 0))
  add_block (suc k) a b {r} {s} hr hs =
      ap₂ (add p) (block_cons a k r) (block_cons b k s)
      ∙ Ring.add_cons p p2 (a * p ^ k + r / p) (b * p ^ k + s / p) (Ring.reduced p p2 r) (Ring.reduced p p2 s)
      ∙ rw (add_block k a b (low_lt k hr) (low_lt k hs), Ring.add_step p p2 r s)
      (simp (Nat.add-mul, Nat.add_assoc, shift_suc))

  -- a sum of disjoint parts is the sum of the numbers
  pub add_parts : (k a : ℕ) {r : ℕ} → r < p ^ k → add p (a * p ^ k) r ≡ a * p ^ k + r
  add_parts k a {r} h =
      ap₂ (add p) (sym (add-zero (a * p ^ k))) (sym (zero-add r) ∙ ap (λ (v : ℕ). v + r) (sym (zero-mul (p ^ k))))
      ∙ add_block k a 0 (pow_pos k) h
      ∙ rw (Ring.add_zero_right p p2 a, Ring.add_zero_left p p2 r)

  pub add_shifts : (k a b : ℕ) → add p (a * p ^ k) (b * p ^ k) ≡ add p a b * p ^ k
  add_shifts k a b =
      ap₂ (add p) (sym (add-zero (a * p ^ k))) (sym (add-zero (b * p ^ k))) ∙ add_block k a b (pow_pos k) (pow_pos k)
      ∙ rw (Ring.add_zero_left p p2 0, add-zero (add p a b * p ^ k))

  -- what passes times x passes times x^k
  shifts : (f : ℕ → ℕ) → ((a : ℕ) → f (a * p) ≡ f a * p) → (k a : ℕ) → f (a * p ^ k) ≡ f a * p ^ k
  shifts f e zero a = simp (pow-zero, Nat.mul-one)
  shifts f e (suc k) a = rw (shift_suc a k, e (a * p ^ k), shifts f e k a) (sym (shift_suc (f a) k))

  pub scale_shifts : (k c a : ℕ) → scale p c (a * p ^ k) ≡ scale p c a * p ^ k
  scale_shifts k c = shifts (scale p c) (Ring.scale_shift p p2 c) k

  pub mul_shifts : (k a b : ℕ) → mul p (a * p ^ k) b ≡ mul p a b * p ^ k
  mul_shifts k a b = shifts (λ (v : ℕ). mul p v b) (λ v. Ring.mul_shift p p2 v b) k a

  pub scale_block : (k c a : ℕ) {r : ℕ} → r < p ^ k → scale p c (a * p ^ k + r) ≡ scale p c a * p ^ k + scale p c r
  scale_block k c a {r} h =
      ap (scale p c) (sym (add_parts k a h)) ∙ Ring.scale_add p p2 c (a * p ^ k) r
      ∙ rw (scale_shifts k c a) (add_parts k (scale p c a) (scale_lt k c h))

  pub mul_lt : (i j : ℕ) {a b : ℕ} → a < p ^ i → b < p ^ suc j → mul p a b < p ^ (i + j)
  mul_lt zero j {a} {b} ha hb = rw (only_zero ha, Ring.mul_zero_left p p2 b) (pow_pos (0 + j))
  mul_lt (suc i) j {a} {b} ha hb =
      rw (Ring.mul_step p p2 a b, Nat.suc-add i j)
      (add_lt (suc (i + j))
      (rw (pow-suc p (i + j)) (Nat.mul-lt-mul_of_pos_right (mul_lt i j (low_lt i ha) hb) (p_pos p p2)))
      (Nat.lt_of_lt_of_le (scale_lt (suc j) (a % p) hb) (Nat.pow-le-pow_right (p_pos p p2) (omega arith))))
