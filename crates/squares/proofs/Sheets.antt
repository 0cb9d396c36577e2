-- What a sheet holds: blocks of equal length stand one after the other, rows in the sheet and sites in a row.
use mathlib.Core.Logic.{◌⊎◌, inl, inr}
use mathlib.Core.Path.{◌≡◌, refl, sym, ap, ◌∙◌}
use mathlib.Core.List.{List, [], ◌∷◌, ◌++◌, map}
use Prim.Native.Nat.{ℕ, zero, suc, ◌+◌, ◌*◌, ◌^◌, ◌<◌}
use native.Mathlib.Nat
use native.Mathlib.Nat.{eq-or-lt_of_le, le_of_suc-le-suc}
use native.Mathlib.Omega.{arith}
use lib.Arith.{digits_lt}
use lib.ListN.{length, get_or, length-append, length-map, get_or-append}
use lib.Pow.{pow_pos, pow-add}
use lib.Seq.{get_or-append-add}
use Rattle.squares.specs.Squares.{Square}
use Rattle.squares.specs.Symbols.{symbol}
use Rattle.squares.specs.Sheets.{each_below, site_bytes, row_bytes, sheet}
use Rattle.squares.specs.Replies.{sheet_of}

module _ (h : ℕ → List ℕ) (w : ℕ) (width : (i : ℕ) → length (h i) ≡ w) where
  each_length : (k : ℕ) → length (each_below k h) ≡ k * w
  each_length zero = sym (Nat.zero-mul w)
  each_length (suc k) = length-append (each_below k h) (h k) ∙ rw (each_length k, width k) (sym (Nat.suc-mul k w))

  each_at : {j : ℕ} → j < w → (k i : ℕ) → i < k → get_or (each_below k h) (i * w + j) 0 ≡ get_or (h i) j 0
  each_at hj zero i l = absurd (omega arith)
  each_at {j} hj (suc k) i l = go (each_at hj k i) (eq-or-lt_of_le (le_of_suc-le-suc l))
    where
      go : (i < k → get_or (each_below k h) (i * w + j) 0 ≡ get_or (h i) j 0) → (i ≡ k) ⊎ (i < k)
          → get_or (each_below k h ++ h k) (i * w + j) 0 ≡ get_or (h i) j 0
      go ih (inl e) = rw (e, ← each_length k) (get_or-append-add (each_below k h) (h k) j 0)
      go ih (inr less) =
          get_or-append (each_below k h) (h k) 0 (i * w + j) (rw (each_length k) (digits_lt less hj)) ∙ ih less

-- an element in range, whatever stands for the others
pub map_at : {A B : Type 0} (h : A → B) (a : A) (b : B) (xs : List A) (k : ℕ) → k < length xs → get_or (map h xs) k b ≡ h (get_or xs k a)
map_at h a b [] k l = absurd (omega arith)
map_at h a b (x ∷ xs) zero l = refl
map_at h a b (x ∷ xs) (suc k) l = map_at h a b xs k (omega arith)

module _ (N : ℕ) (squares : List Square) where
  abbrev width : ℕ
  width = length squares

  site_length : (row col : ℕ) → length (site_bytes squares row col) ≡ width
  site_length row col = length-map squares (λ (square : Square). square row col)

  row_length : (row : ℕ) → length (row_bytes N squares row) ≡ N * width
  row_length row = each_length _ width (λ col. length-map squares _) N

  sheet_length : length (sheet N squares) ≡ N * (N * width)
  unfolding sheet
  sheet_length = each_length (row_bytes N squares) (N * width) row_length N

  pub byte_at : (row col : ℕ) {k : ℕ} → row < N → col < N → k < width
      → get_or (sheet N squares) (width * (row * N + col) + k) 0 ≡ get_or (site_bytes squares row col) k 0
  unfolding sheet
  byte_at row col {k} hr hc hk =
      let parts : width * (row * N + col) ≡ row * N * width + col * width = Nat.mul_comm _ _ ∙ Nat.add-mul (row * N) col width in
      let regroup : row * (N * width) ≡ row * N * width = sym (Nat.mul_assoc row N width) in
      let place : width * (row * N + col) + k ≡ row * (N * width) + (col * width + k) = omega arith in
      rw place
      (each_at (row_bytes N squares) (N * width) row_length (digits_lt hc hk) N row hr
      ∙ each_at (site_bytes squares row) width (site_length row) hk N col hc)

-- ---- the sheet call
pub four_pow : (n : ℕ) → 4 ^ n ≡ 2 ^ n * 2 ^ n
four_pow zero = refl
four_pow (suc n) =
    rw (Nat.pow-suc 4 n, four_pow n, Nat.pow-suc 2 n) (simp (Nat.mul_assoc, Nat.mul_comm, Nat.mul_left_comm) (omega arith))

pub square_is : (n : ℕ) → 2 ^ (2 * n) ≡ 4 ^ n
square_is n = let e : 2 * n ≡ n + n = omega arith in rw e (pow-add 2 n n ∙ sym (four_pow n))

pub four_pos : (n : ℕ) → 0 < 4 ^ n
four_pos n = rw (← square_is n) (pow_pos (2 * n))

pub sheet_of_length : (n : ℕ) (codes : List ℕ) → length (sheet_of n codes) ≡ length codes * 4 ^ n
unfolding sheet_of
sheet_of_length n codes =
    sheet_length (2 ^ n) (map (symbol 2 n) codes)
    ∙ rw (length-map codes (symbol 2 n), four_pow n)
    (sym (Nat.mul_assoc (2 ^ n) (2 ^ n) (length codes)) ∙ Nat.mul_comm (2 ^ n * 2 ^ n) (length codes))

-- byte k of a site is the symbol of code k
pub symbol_at : (n : ℕ) (codes : List ℕ) (row col : ℕ) {k : ℕ} → row < 2 ^ n → col < 2 ^ n → k < length codes
    → get_or (sheet_of n codes) (length codes * (row * 2 ^ n + col) + k) 0 ≡ symbol 2 n (get_or codes k 0) row col
unfolding sheet_of
symbol_at n codes row col {k} hr hc hk =
    let squares : List Square = map (symbol 2 n) codes in
    let same : length squares ≡ length codes = length-map codes (symbol 2 n) in
    let inside : k < length squares = rw same hk in
    rw (← same) (byte_at (2 ^ n) squares row col hr hc inside)
    ∙ map_at (λ (square : Square). square row col) (symbol 2 n 0) 0 squares k inside
    ∙ ap (λ (square : Square). square row col) (map_at (symbol 2 n) 0 (symbol 2 n 0) codes k hk)
