-- The order in which the sites are put into the sets, two rows at a time, column by column, and of an odd order the last row twice: item s
-- is in row 2 (s / 2N) + s % 2, or in the last one where there is no such row, and in column (s % 2N) / 2. Each site is some item, so that
-- the sets are those of all sites.
use mathlib.Core.Bool.{cond}
use mathlib.Core.Path.{◌≡◌, ap, ◌∙◌}
use Prim.Native.Nat.{ℕ, zero, suc, ◌+◌, ◌-◌, ◌*◌, ◌/◌, ◌%◌, ◌≤◌, ◌<◌, min}
use native.Mathlib.Nat.{mul_assoc, mod-lt}
use native.Mathlib.Omega.{arith}
use lib.Arith.{digits_lt, digits_div, digits_mod}
use lib.Dec.{eqb}

module _ (N : ℕ) where
  abbrev pub row_of : ℕ → ℕ
  row_of s = min (2 * (s / (2 * N)) + s % (2 * N) % 2) (N - 1)

  abbrev pub col_of : ℕ → ℕ
  col_of s = s % (2 * N) / 2

  -- the item of a site
  abbrev pub item : ℕ → ℕ → ℕ
  item row col = row / 2 * (2 * N) + (2 * col + row % 2)

  module _ {row col : ℕ} (hr : row < N) (hc : col < N) where
    place_lt : 2 * col + row % 2 < 2 * N
    place_lt = omega arith

    pub item_row : row_of (item row col) ≡ row
    item_row = rw (digits_div (row / 2) place_lt, digits_mod (row / 2) place_lt) (omega arith)

    pub item_col : col_of (item row col) ≡ col
    item_col = rw (digits_mod (row / 2) place_lt) (omega arith)

    -- it comes with the first rows, an even number of them and all rows among them
    pub item_lt : {rows : ℕ} → N ≤ rows → rows % 2 ≡ 0 → item row col < rows * N
    item_lt {rows} all even =
        let half : rows ≡ rows / 2 * 2 = omega arith in
        rw (half, mul_assoc (rows / 2) 2 N) (digits_lt (let l : row / 2 < rows / 2 = omega arith in l) place_lt)

  pub row_lt : 0 < N → (s : ℕ) → row_of s < N
  row_lt pos s = omega arith

  pub col_lt : 0 < N → (s : ℕ) → col_of s < N
  col_lt pos s = let l : s % (2 * N) < 2 * N = mod-lt s (omega arith) in omega arith

  -- the items of two rows more
  module _ (row i : ℕ) (even : row % 2 ≡ 0) (h : i < 2 * N) where
    whole : row * N + i ≡ row / 2 * (2 * N) + i
    whole = let half : row ≡ row / 2 * 2 = omega arith in
        ap (λ (v : ℕ). v + i) (ap (λ (v : ℕ). v * N) half ∙ mul_assoc (row / 2) 2 N)

    pub turn_col : col_of (row * N + i) ≡ i / 2
    turn_col = ap col_of whole ∙ rw (digits_mod (row / 2) h)

    pub turn_row : row < N → {next : ℕ} → next ≡ min (row + 1) (N - 1) → row_of (row * N + i) ≡ cond (eqb (i % 2) 0) row next
    turn_row hr {next} is =
        ap row_of whole ∙ rw (digits_div (row / 2) h, digits_mod (row / 2) h) (go (i % 2) (mod-lt i (omega arith)))
      where
        go : (d : ℕ) → d < 2 → min (2 * (row / 2) + d) (N - 1) ≡ cond (eqb d 0) row next
        go zero l = omega arith
        go (suc zero) l = omega arith
        go (suc (suc d)) l = absurd (omega arith)
