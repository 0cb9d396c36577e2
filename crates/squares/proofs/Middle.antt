-- The symbol is the middle of a product: with X = row * p^n + col, it is digits n to 2n - 1 of f times X. For cell i of the line is digit
-- 2n - 1 - i of X, and output cell i is the coefficient of x^(2n-1-i) in the product.
use mathlib.Core.Path.{◌≡◌, refl, sym, ap, ap₂, ◌∙◌, fun_ext}
use mathlib.Core.List.{◌∷◌, ◌++◌}
use Prim.Native.Nat.{ℕ, zero, suc, ◌+◌, ◌-◌, ◌*◌, ◌/◌, ◌%◌, ◌^◌, ◌≤◌, ◌<◌}
use native.Mathlib.Nat
use native.Mathlib.Nat.{pow-zero, pow-suc, pow-succ', div-div-eq-div-mul}
use native.Mathlib.Omega.{arith}
use lib.Arith.{digits_lt, digits_div, digits_mod, mod-mul, lt-one}
use lib.ListN.{get_or}
use lib.Pow.{pow-add}
use Rattle.poly.specs.Code.{add, scale, mul}
use Rattle.poly.proofs.Digits.{p_pos}
use Rattle.poly.proofs.Ring
use Rattle.poly.proofs.Blocks
use Rattle.squares.proofs.Codes
use Rattle.poly.specs.Code.{digit}
use Rattle.squares.specs.Symbols.{digits, from_digits, sum_below, output_cell, symbol}

-- digits n to 2n - 1 of a number
abbrev pub middle : ℕ → ℕ → ℕ → ℕ
middle p n a = a / p ^ n % p ^ n

-- a shift by i + j is a shift by i, then by j
pub div_pow : (p a i j : ℕ) → a / p ^ i / p ^ j ≡ a / p ^ (i + j)
div_pow p a i j = div-div-eq-div-mul a (p ^ i) (p ^ j) ∙ ap (λ (v : ℕ). a / v) (sym (pow-add p i j))

module _ (p : ℕ) (p2 : 2 ≤ p) where
  -- ---- single digits
  digit_add : (a b j : ℕ) → digit p (add p a b) j ≡ (digit p a j + digit p b j) % p
  digit_add a b j =
      rw (Codes.add_div p p2 j a b, Ring.add_step p p2 (a / p ^ j) (b / p ^ j))
      (digits_mod _ (Ring.reduced p p2 (digit p a j + digit p b j)))

  digit_scale : (c a j : ℕ) → digit p (scale p c a) j ≡ c * digit p a j % p
  digit_scale c a j =
      rw (Codes.scale_div p p2 j c a, Ring.scale_step p p2 c (a / p ^ j)) (digits_mod _ (Ring.reduced p p2 (c * digit p a j)))

  digit_shift : (a j : ℕ) → digit p (a * p) (suc j) ≡ digit p a j
  digit_shift a j = rw (pow-suc p j, Nat.mul-div-mul_right a (p ^ j) (p_pos p p2))

  pub digit_rest : (a j : ℕ) → digit p a (suc j) ≡ digit p (a / p) j
  digit_rest a j = rw (pow-succ' p j, ← div-div-eq-div-mul a p (p ^ j))

  pub digit_lowest : (a : ℕ) → digit p a 0 ≡ a % p
  digit_lowest a = rw (pow-zero p, Nat.div-one a)

  -- the last of k + 1 digits, counted from the top, and those before it
  digit_last : (k a : ℕ) → digit p a (suc k - suc k) ≡ a % p
  digit_last k a = let e : suc k - suc k ≡ 0 = omega arith in rw e (digit_lowest a)

  digit_before : (k a i : ℕ) → i < k → digit p a (suc k - suc i) ≡ digit p (a / p) (k - suc i)
  digit_before k a i l = let e : suc k - suc i ≡ suc (k - suc i) = omega arith in rw e (digit_rest a (k - suc i))

  -- ---- the line: the digits of X
  module _ (n row : ℕ) {col : ℕ} (lt : col < p ^ n) where
    pub digit_high : (k : ℕ) → digit p (row * p ^ n + col) (k + n) ≡ digit p row k
    digit_high k = rw (Nat.add_comm k n, ← div_pow p (row * p ^ n + col) n k, digits_div row lt)

    pub digit_low : (k : ℕ) → k < n → digit p (row * p ^ n + col) k ≡ digit p col k
    digit_low k l =
        let parts : n ≡ (n - suc k) + suc k = omega arith in
        let e : row * p ^ n ≡ row * p ^ (n - suc k) * p * p ^ k =
        ap (λ (v : ℕ). row * p ^ v) parts
        ∙ rw (pow-add p (n - suc k) (suc k), pow-succ' p k) (simp Nat.mul_assoc) in
        rw (e, Nat.mul-add-div_right (Blocks.pow_pos p p2 k) (row * p ^ (n - suc k) * p) col)
        (Nat.mul-add-mod_self_right (row * p ^ (n - suc k)) p (col / p ^ k))

    digits_low : (k : ℕ) → k ≤ n → digits p k (row * p ^ n + col) ≡ digits p k col
    digits_low zero l = refl
    digits_low (suc k) l = ap₂ ◌∷◌ (digit_low k l) (digits_low k (omega arith))

    pub digits_append : (k : ℕ) → digits p k row ++ digits p n col ≡ digits p (k + n) (row * p ^ n + col)
    digits_append zero = rw (Nat.zero-add n) (sym (digits_low n (Nat.le_refl n)))
    digits_append (suc k) = rw (Nat.suc-add k n) (ap₂ ◌∷◌ (sym (digit_high k)) (digits_append k))

  pub cell_at : (m i k a : ℕ) → i + suc k ≡ m → get_or (digits p m a) i 0 ≡ digit p a k
  cell_at zero i k a e = absurd (omega arith)
  cell_at (suc m) zero k a e = let same : m ≡ k = omega arith in rw same
  cell_at (suc m) (suc i) k a e = cell_at m i k a (omega arith)

  -- ---- an output cell: a coefficient of the product
  -- one coefficient of f more, the lowest
  product_step : (f i k m X rest : ℕ) → i + suc k ≡ m → rest % p ≡ digit p (mul p (f / p) X * p) k
      → (digit p f 0 * get_or (digits p m X) (i + 0) 0 + rest) % p ≡ digit p (mul p f X) k
  product_step f i k m X rest e h =
      rw (
        digit_lowest f,
        Nat.add-zero i,
        cell_at m i k X e,
        Nat.add_comm (f % p * digit p X k) rest,
        ← Nat.mod-add-mod rest p (f % p * digit p X k),
        h,
        Ring.mul_step p p2 f X,
        digit_add (mul p (f / p) X * p) (scale p (f % p) X) k,
        digit_scale (f % p) X k,
      )
      (sym (Nat.add-mod-mod _ _ p))

  product_rest : (n f i m X : ℕ)
      → sum_below n (λ j. digit p f (suc j) * get_or (digits p m X) (i + suc j) 0)
      ≡ sum_below n (λ j. digit p (f / p) j * get_or (digits p m X) (suc i + j) 0)
  product_rest n f i m X =
      ap (sum_below n)
      (fun_ext (λ j. ap₂ ◌*◌ (digit_rest f j) (ap (λ (v : ℕ). get_or (digits p m X) v 0) (Nat.add-suc i j ∙ sym (Nat.suc-add i j)))))

  product_digit : (n f i k m X : ℕ) → f < p ^ n → n ≤ suc k → i + suc k ≡ m
      → sum_below n (λ j. digit p f j * get_or (digits p m X) (i + j) 0) % p ≡ digit p (mul p f X) k
  product_digit zero f i k m X lt le e =
      let f_zero : f ≡ 0 = lt-one (rw (pow-zero p) at lt) in
      rw (f_zero, Ring.mul_zero_left p p2 X, Nat.zero-div (p ^ k))
  product_digit (suc zero) f i zero m X lt le e =
      product_step f i 0 m X 0 e (Nat.zero-mod p ∙ sym (digit_lowest (mul p (f / p) X * p) ∙ Nat.mul-mod_left (mul p (f / p) X) p))
  product_digit (suc (suc n)) f i zero m X lt le e = absurd (omega arith)
  product_digit (suc n) f i (suc k) m X lt le e =
      product_step f i (suc k) m X _ e
      (ap (λ (v : ℕ). v % p) (product_rest n f i m X)
      ∙ product_digit n (f / p) (suc i) k m X ((Nat.div-lt_iff_lt-mul (p_pos p p2)).1 (rw (pow-suc p n) at lt)) (omega arith) (omega arith)
      ∙ sym (digit_shift (mul p (f / p) X) k))

  number_is : (k a : ℕ) (h : ℕ → ℕ) → ((i : ℕ) → i < k → h i ≡ digit p a (k - suc i)) → from_digits p k h ≡ a % p ^ k
  number_is zero a h e = rw (pow-zero p) (sym (Nat.mod-one a))
  number_is (suc k) a h e =
      ap₂ (λ (u v : ℕ). u * p + v) (number_is k (a / p) h (λ i l. e i (omega arith) ∙ digit_before k a i l))
      (e k (omega arith) ∙ digit_last k a)
      ∙ rw (pow-suc p k) (sym (mod-mul a (Blocks.pow_pos p p2 k) (p_pos p p2)))

  pub number_lt : (k : ℕ) (h : ℕ → ℕ) → ((i : ℕ) → h i < p) → from_digits p k h < p ^ k
  number_lt zero h small = Blocks.pow_pos p p2 0
  number_lt (suc k) h small = rw (pow-suc p k) (digits_lt (number_lt k h small) (small k))

  pub symbol_middle : (n row : ℕ) {f col : ℕ} → f < p ^ suc n → col < p ^ n
      → symbol p n f row col ≡ middle p n (mul p f (row * p ^ n + col))
  unfolding symbol output_cell
  symbol_middle n row {f} {col} f_lt col_lt =
      rw (digits_append n row col_lt n)
      (number_is n (mul p f X / p ^ n) _
      (λ i l. product_digit (suc n) f i (n + (n - suc i)) (n + n) X f_lt (omega arith) (omega arith)
      ∙ ap (λ (v : ℕ). v % p) (sym (div_pow p (mul p f X) n (n - suc i)))))
    where
      X : ℕ
      X = row * p ^ n + col
