-- The sets after all rows: those of a square's columns are full exactly where every column is a permutation of the symbols, those of the
-- pairs exactly where the squares are orthogonal. What is met among the items is what is met among the sites.
use mathlib.Core.Bool.{Bool, true, ◌&&◌}
use mathlib.Core.List.{List}
use mathlib.Core.Path.{◌≡◌, sym, ap, ap₂, ◌∙◌}
use Prim.Native.Nat.{ℕ, ◌+◌, ◌-◌, ◌*◌, ◌/◌, ◌%◌, ◌≤◌, ◌<◌, min}
use native.Mathlib.Nat.{add-mul, zero-mul, mod-lt, div-lt_iff_lt-mul}
use native.Mathlib.Omega.{arith}
use lib.Arith.{digits_lt, digits_div, digits_mod}
use lib.Dec.{leb, eqb}
use lib.ListN.{replicate}
use borrow.Author.Tests.{leb-true, eqb-true, le-leb, eq-eqb}
use Rattle.squares.specs.Sheets.{shown}
use Rattle.sheets.specs.Counting.{count_below, all_below, is_permutation, is_orthogonal}
use Rattle.sheets.specs.Inner.{InRange, by_turns, all_full, pairs_put}
use Rattle.sheets.proofs.Below.{same_truth, both_true, all_same, count_some, count_exists}
use Rattle.sheets.proofs.Sets.{some_once, one_site}
use Rattle.sheets.proofs.Tables.{pairs_append, table_some}
use Rattle.sheets.proofs.Items.{row_of, col_of, item, item_row, item_col, item_lt, row_lt, col_lt, turn_col, turn_row}
use Rattle.sheets.proofs.Reading.{symbol_lt}

-- one passes in the one range if and only if one passes in the other
some_same : (k k' : ℕ) (test test' : ℕ → Bool) → ((i : ℕ) → i < k → test i ≡ true → (j : ℕ) × (j < k') × (test' j ≡ true))
    → ((j : ℕ) → j < k' → test' j ≡ true → (i : ℕ) × (i < k) × (test i ≡ true))
    → leb 1 (count_below k test) ≡ leb 1 (count_below k' test')
some_same k k' test test' there back = same_truth _ _ (go k k' test test' there) (go k' k test' test back)
  where
    go : (k k' : ℕ) (test test' : ℕ → Bool) → ((i : ℕ) → i < k → test i ≡ true → (j : ℕ) × (j < k') × (test' j ≡ true))
        → leb 1 (count_below k test) ≡ true → leb 1 (count_below k' test') ≡ true
    go k k' test test' to e =
        let (i, l, p) = count_exists test k (leb-true 1 (count_below k test) e) in
        let (j, l', p') = to i l p in
        le-leb 1 (count_below k' test') (count_some test' k' j l' p')

module _ (N : ℕ) (bytes : List ℕ) where
  -- symbol k of an item
  abbrev pub symbol_of : ℕ → ℕ → ℕ
  symbol_of k s = shown 2 N k bytes (row_of N s) (col_of N s)

  -- a table with the pairs of the items of so many rows
  abbrev pub items_put : (ℕ → ℕ) → (ℕ → ℕ) → ℕ → List ℕ
  items_put first second rows = pairs_put (replicate 64 0) (rows * N) first second

  pub none_put : (first second : ℕ → ℕ) → replicate 64 0 ≡ items_put first second 0
  none_put first second = ap (λ (k : ℕ). pairs_put (replicate 64 0) k first second) (sym (zero-mul N))

  -- two rows more
  module _ (row : ℕ) (even : row % 2 ≡ 0) where
    pub items_next : (first second : ℕ → ℕ) {first' second' : ℕ → ℕ} {before after : List ℕ} → before ≡ items_put first second row
        → after ≡ pairs_put before (2 * N) first' second' → ((i : ℕ) → i < 2 * N → first' i ≡ first (row * N + i))
        → ((i : ℕ) → i < 2 * N → second' i ≡ second (row * N + i)) → after ≡ items_put first second (row + 2)
    items_next first second {first'} {second'} is next firsts seconds =
        next ∙ ap (λ (t : List ℕ). pairs_put t (2 * N) first' second') is
        ∙ pairs_append (replicate 64 0) (row * N) (2 * N) first second first' second' firsts seconds
        ∙ ap (λ (k : ℕ). pairs_put (replicate 64 0) k first second) (sym (add-mul row 2 N))

    pub column_next : (i : ℕ) → i < 2 * N → i / 2 ≡ col_of N (row * N + i)
    column_next i h = sym (turn_col N row i even h)

    pub symbol_next : (k : ℕ) → row < N → {next : ℕ} → next ≡ min (row + 1) (N - 1) → (i : ℕ) → i < 2 * N
        → by_turns N bytes k row next i ≡ symbol_of k (row * N + i)
    symbol_next k hr is i h = ap₂ (shown 2 N k bytes) (sym (turn_row N row i even h hr is)) (column_next i h)

  module _ (in_range : InRange N bytes) (rows : ℕ) (all : N ≤ rows) (even : rows % 2 ≡ 0) where
    of_lt : (k : ℕ) → k < 2 → (s : ℕ) → symbol_of k s < N
    of_lt k hk s = symbol_lt in_range k hk (row_lt N in_range.some s) (col_lt N in_range.some s)

    pub columns_full : (k : ℕ) → k < 2 → {table : List ℕ} → table ≡ items_put (col_of N) (symbol_of k) rows
        → all_full N table ≡ all_below N (λ col. is_permutation N (λ row. shown 2 N k bytes row col))
    columns_full k hk is =
        ap (all_full N) is
        ∙ table_some (col_of N) (symbol_of k) N (rows * N) in_range.few (λ s h. col_lt N in_range.some s) (λ s h. of_lt k hk s)
        ∙ all_same _ _ N
        (λ col hc. all_same _ _ N (λ v hv. some_same (rows * N) N (λ s. eqb (col_of N s) col && eqb (symbol_of k s) v)
        (λ row. eqb (shown 2 N k bytes row col) v) (there col v) (back col v hc))
        ∙ some_once N (λ row. shown 2 N k bytes row col))
      where
        there : (col v s : ℕ) → s < rows * N → (eqb (col_of N s) col && eqb (symbol_of k s) v) ≡ true
            → (row : ℕ) × (row < N) × (eqb (shown 2 N k bytes row col) v ≡ true)
        there col v s h e =
            let (c, d) = both_true (eqb (col_of N s) col) (eqb (symbol_of k s) v) e in
            (row_of N s, row_lt N in_range.some s, rw (eqb-true (col_of N s) col c) at d)

        back : (col v : ℕ) → col < N → (row : ℕ) → row < N → eqb (shown 2 N k bytes row col) v ≡ true
            → (s : ℕ) × (s < rows * N) × ((eqb (col_of N s) col && eqb (symbol_of k s) v) ≡ true)
        back col v hc row hr e =
            let c = item_col N hr hc in (
              item N row col,
              item_lt N hr hc all even,
              ap₂ ◌&&◌ (eq-eqb (col_of N (item N row col)) col c) (rw (item_row N hr hc, c) e),
            )

    pub pairs_full : {table : List ℕ} → table ≡ items_put (symbol_of 0) (symbol_of 1) rows
        → all_full N table ≡ is_orthogonal N (shown 2 N 0 bytes) (shown 2 N 1 bytes)
    pairs_full is =
        ap (all_full N) is
        ∙ table_some (symbol_of 0) (symbol_of 1) N (rows * N) in_range.few (λ s h. of_lt 0 (omega arith) s)
        (λ s h. of_lt 1 (omega arith) s)
        ∙ all_same _ _ N
        (λ a ha. all_same _ _ N
        (λ b hb. some_same (rows * N) (N * N) (λ s. eqb (symbol_of 0 s) a && eqb (symbol_of 1 s) b) (at a b) (there a b) (back a b)))
        ∙ one_site N (λ s. shown 2 N 0 bytes (s / N) (s % N)) (λ s. shown 2 N 1 bytes (s / N) (s % N))
      where
        at : ℕ → ℕ → ℕ → Bool
        at a b s = eqb (shown 2 N 0 bytes (s / N) (s % N)) a && eqb (shown 2 N 1 bytes (s / N) (s % N)) b

        there : (a b s : ℕ) → s < rows * N → (eqb (symbol_of 0 s) a && eqb (symbol_of 1 s) b) ≡ true
            → (t : ℕ) × (t < N * N) × (at a b t ≡ true)
        there a b s h e =
            let hr = row_lt N in_range.some s in
            let hc = col_lt N in_range.some s in
            (row_of N s * N + col_of N s, digits_lt hr hc, rw (digits_div (row_of N s) hc, digits_mod (row_of N s) hc) e)

        back : (a b t : ℕ) → t < N * N → at a b t ≡ true
            → (s : ℕ) × (s < rows * N) × ((eqb (symbol_of 0 s) a && eqb (symbol_of 1 s) b) ≡ true)
        back a b t h e =
            let hr : t / N < N = (div-lt_iff_lt-mul in_range.some).1 h in
            let hc : t % N < N = mod-lt t in_range.some in
            (item N (t / N) (t % N), item_lt N hr hc all even, rw (item_row N hr hc, item_col N hr hc) e)
