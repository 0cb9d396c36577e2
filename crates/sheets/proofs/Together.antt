-- The test of a sheet as it is worked: while rows are put, each of them is tried, and the sets have what was put; in the end the sets say
-- the rest.
use mathlib.Core.Bool.{Bool, true, false, ◌&&◌, and-false}
use mathlib.Core.List.{List}
use mathlib.Core.Path.{◌≡◌, refl, sym, ap, ◌∙◌}
use Prim.Native.Nat.{ℕ, ◌+◌, ◌-◌, ◌*◌, ◌/◌, ◌%◌, ◌≤◌, ◌<◌, min}
use native.Mathlib.Decide.{dec_lt}
use native.Mathlib.Omega.{arith}
use lib.ListN.{replicate}
use Rattle.squares.specs.Sheets.{shown}
use Rattle.sheets.specs.Counting.{all_below, is_permutation, is_orthogonal, is_graeco_latin}
use Rattle.sheets.specs.Inner.{InRange, row_permutes, by_turns, all_full, pairs_put}
use Rattle.sheets.proofs.Below.{both_true, all_true, all_fails, all_both}
use Rattle.sheets.proofs.Items.{col_of}
use Rattle.sheets.proofs.Complete.{symbol_of, items_put, none_put, items_next, column_next, symbol_next, columns_full, pairs_full}

-- What is known after the first rows, an even number of them; of an odd order the last counts as two.
pub record RowsPut (N : ℕ) (bytes firsts seconds pairs : List ℕ) (rows : ℕ) : Type 0 where
  pub even : rows % 2 ≡ 0
  pub permute : (row : ℕ) → row < rows → row < N → row_permutes N bytes row ≡ true
  pub of_first : firsts ≡ items_put N bytes (col_of N) (symbol_of N bytes 0) rows
  pub of_second : seconds ≡ items_put N bytes (col_of N) (symbol_of N bytes 1) rows
  pub of_both : pairs ≡ items_put N bytes (symbol_of N bytes 0) (symbol_of N bytes 1) rows

module _ (N : ℕ) (bytes : List ℕ) where
  pub no_rows : RowsPut N bytes (replicate 64 0) (replicate 64 0) (replicate 64 0) 0
  no_rows = record {
    even = refl;
    permute = λ row h _. absurd (omega arith);
    of_first = none_put N bytes (col_of N) (symbol_of N bytes 0);
    of_second = none_put N bytes (col_of N) (symbol_of N bytes 1);
    of_both = none_put N bytes (symbol_of N bytes 0) (symbol_of N bytes 1);
  }

  module _ {row next : ℕ} (inside : row < N) (is : next ≡ min (row + 1) (N - 1)) where
    pub next_lt : next < N
    next_lt = omega arith

    -- a row that fails
    pub row_fails : (row_permutes N bytes row && row_permutes N bytes next) ≡ false → all_below N (row_permutes N bytes) ≡ false
    row_fails e = go (row_permutes N bytes row) refl e
      where
        go : (b : Bool) → row_permutes N bytes row ≡ b → (b && row_permutes N bytes next) ≡ false
            → all_below N (row_permutes N bytes) ≡ false
        go true t n = all_fails (row_permutes N bytes) N next next_lt n
        go false t n = all_fails (row_permutes N bytes) N row inside t

    module _ {firsts seconds pairs firsts' seconds' pairs' : List ℕ} (put : RowsPut N bytes firsts seconds pairs row) where
      pub rows_next : (row_permutes N bytes row && row_permutes N bytes next) ≡ true
          → firsts' ≡ pairs_put firsts (2 * N) (λ j. j / 2) (by_turns N bytes 0 row next)
          → seconds' ≡ pairs_put seconds (2 * N) (λ j. j / 2) (by_turns N bytes 1 row next)
          → pairs' ≡ pairs_put pairs (2 * N) (by_turns N bytes 0 row next) (by_turns N bytes 1 row next)
          → RowsPut N bytes firsts' seconds' pairs' (row + 2)
      rows_next e f g p = record {
        even = let even = put.even in omega arith;
        permute = λ i h hN. tried i h hN (dec_lt i row);
        of_first = items_next N bytes row put.even (col_of N) (symbol_of N bytes 0) put.of_first f columns (symbols 0);
        of_second = items_next N bytes row put.even (col_of N) (symbol_of N bytes 1) put.of_second g columns (symbols 1);
        of_both = items_next N bytes row put.even (symbol_of N bytes 0) (symbol_of N bytes 1) put.of_both p (symbols 0) (symbols 1);
      }
        where
          columns : (i : ℕ) → i < 2 * N → i / 2 ≡ col_of N (row * N + i)
          columns = column_next N bytes row put.even

          symbols : (k i : ℕ) → i < 2 * N → by_turns N bytes k row next i ≡ symbol_of N bytes k (row * N + i)
          symbols k = symbol_next N bytes row put.even k inside is

          both : (row_permutes N bytes row ≡ true) × (row_permutes N bytes next ≡ true)
          both = both_true (row_permutes N bytes row) (row_permutes N bytes next) e

          tried : (i : ℕ) → i < row + 2 → i < N → Dec (i < row) → row_permutes N bytes i ≡ true
          tried i h hN (yes before) = put.permute i before hN
          tried i h hN (no after) = go (dec_lt row i)
            where
              go : Dec (row < i) → row_permutes N bytes i ≡ true
              go (yes l) = let same : i ≡ next = omega arith in ap (row_permutes N bytes) same ∙ both.1
              go (no l) = let same : i ≡ row = omega arith in ap (row_permutes N bytes) same ∙ both.0

  rearranged : (rows rows' columns columns' pairs : Bool)
      → (rows && columns && (rows' && columns') && pairs) ≡ (rows && rows' && columns && columns' && pairs)
  rearranged false rows' columns columns' pairs = refl
  rearranged true false columns columns' pairs = ap (λ (b : Bool). b && pairs) (and-false columns)
  rearranged true true columns columns' pairs = refl

  -- the rows, the columns of both squares, the pairs
  pub in_turn : is_graeco_latin N (shown 2 N 0 bytes) (shown 2 N 1 bytes)
      ≡ (all_below N (row_permutes N bytes) && all_below N (λ col. is_permutation N (λ row. shown 2 N 0 bytes row col))
      && all_below N (λ col. is_permutation N (λ row. shown 2 N 1 bytes row col))
      && is_orthogonal N (shown 2 N 0 bytes) (shown 2 N 1 bytes))
  in_turn =
      rearranged (all_below N (row 0)) (all_below N (row 1)) (column 0) (column 1) pairs
      ∙ ap (λ (r : Bool). r && column 0 && column 1 && pairs) (sym (all_both (row 0) (row 1) N))
    where
      row : ℕ → ℕ → Bool
      row k r = is_permutation N (shown 2 N k bytes r)

      column : ℕ → Bool
      column k = all_below N (λ c. is_permutation N (λ r. shown 2 N k bytes r c))

      pairs : Bool
      pairs = is_orthogonal N (shown 2 N 0 bytes) (shown 2 N 1 bytes)

  pub all_rows : InRange N bytes → {firsts seconds pairs : List ℕ} (rows : ℕ) → N ≤ rows → RowsPut N bytes firsts seconds pairs rows
      → is_graeco_latin N (shown 2 N 0 bytes) (shown 2 N 1 bytes) ≡ (all_full N firsts && all_full N seconds && all_full N pairs)
  all_rows in_range rows all put =
      in_turn
      ∙ rw (
        all_true (row_permutes N bytes) N (λ i h. put.permute i (omega arith) h),
        sym (columns_full N bytes in_range rows all put.even 0 (omega arith) put.of_first),
        sym (columns_full N bytes in_range rows all put.even 1 (omega arith) put.of_second),
        sym (pairs_full N bytes in_range rows all put.even put.of_both),
      )
