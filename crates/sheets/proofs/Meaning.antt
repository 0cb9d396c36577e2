-- What the tests by counting mean: `is_latin` passes exactly the Latin squares, `is_orthogonal` the orthogonal ones, and what passes shows
-- no symbol but those below N.
use mathlib.Core.Bool.{Bool, true, ◌&&◌}
use mathlib.Core.Logic.Iff
use mathlib.Core.Logic.{◌↔◌}
use mathlib.Core.Path.{◌≡◌, ap₂}
use Prim.Native.Nat.{ℕ, ◌*◌, ◌/◌, ◌%◌, ◌<◌}
use native.Mathlib.Omega.{arith}
use lib.Dec.{eqb}
use borrow.Author.Tests.{eqb-true, eq-eqb}
use Rattle.squares.specs.Squares.{Square, ExactlyOne, Latin, Site, Orthogonal}
use Rattle.squares.proofs.Agreeing.{exactly_one_same}
use Rattle.sheets.specs.Counting.{count_below, all_below, is_permutation, is_latin, is_orthogonal}
use Rattle.sheets.proofs.Below.{both_true, all_at, all_true}
use Rattle.sheets.proofs.TwoWays.{line_below}
use Rattle.sheets.proofs.Unique.{count_unique, sites_unique}

module _ (N : ℕ) (h : ℕ → ℕ) where
  same_symbol : (symbol i : ℕ) → ((i < N) × (eqb (h i) symbol ≡ true)) ↔ ((i < N) × (h i ≡ symbol))
  same_symbol symbol i = ((λ (l, e). (l, eqb-true (h i) symbol e)), (λ (l, e). (l, eq-eqb (h i) symbol e)))

  abbrev counted : ℕ → Bool
  counted symbol = eqb (count_below N (λ i. eqb (h i) symbol)) 1

  permutation_unique : is_permutation N h ≡ true → (symbol : ℕ) → symbol < N → ExactlyOne (λ (i : ℕ). (i < N) × (h i ≡ symbol))
  permutation_unique e symbol l =
      exactly_one_same (same_symbol symbol)
      ((count_unique (λ i. eqb (h i) symbol) N).0 (eqb-true (count_below N (λ i. eqb (h i) symbol)) 1 (all_at counted N e symbol l)))

  unique_permutation : ((symbol : ℕ) → symbol < N → ExactlyOne (λ (i : ℕ). (i < N) × (h i ≡ symbol))) → is_permutation N h ≡ true
  unique_permutation one =
      all_true counted N
      (λ symbol l. eq-eqb (count_below N (λ i. eqb (h i) symbol)) 1
      ((count_unique (λ i. eqb (h i) symbol) N).1 (exactly_one_same (λ i. Iff.symm (same_symbol symbol i)) (one symbol l))))

  -- no other symbol
  permutation_below : is_permutation N h ≡ true → (i : ℕ) → i < N → h i < N
  permutation_below e = line_below N h (λ symbol l. eqb-true (count_below N (λ i. eqb (h i) symbol)) 1 (all_at counted N e symbol l))

module _ (N : ℕ) (square : Square) where
  abbrev row_permutes_lem : ℕ → Bool
  row_permutes_lem row = is_permutation N (λ col. square row col)

  abbrev column_permutes : ℕ → Bool
  column_permutes col = is_permutation N (λ row. square row col)

  pub latin_means : (is_latin N square ≡ true) ↔ Latin N square
  latin_means = (
    (λ e.
        let (rows, columns) = both_true (all_below N row_permutes_lem) (all_below N column_permutes) e in
        record {
          rows = λ row symbol hr hs. permutation_unique N (square row) (all_at row_permutes_lem N rows row hr) symbol hs;
          columns = λ col symbol hc hs. permutation_unique N (λ row. square row col) (all_at column_permutes N columns col hc) symbol hs;
        }),
    (λ l.
        ap₂ ◌&&◌ (all_true row_permutes_lem N (λ row hr. unique_permutation N (square row) (λ symbol hs. l.rows row symbol hr hs)))
        (all_true column_permutes N (λ col hc. unique_permutation N (λ row. square row col) (λ symbol hs. l.columns col symbol hc hs)))),
  )

  pub latin_below : Latin N square → (row col : ℕ) → row < N → col < N → square row col < N
  latin_below l row col hr hc =
      permutation_below N (square row) (unique_permutation N (square row) (λ symbol hs. l.rows row symbol hr hs)) col hc

module _ (N : ℕ) (first second : Square) where
  -- site number s shows the pair (a, b)
  abbrev shows : ℕ → ℕ → ℕ → Bool
  shows a b s = eqb (first (s / N) (s % N)) a && eqb (second (s / N) (s % N)) b

  abbrev one_site : ℕ → ℕ → Bool
  one_site a b = eqb (count_below (N * N) (shows a b)) 1

  same_pair : (a b s : ℕ)
      → ((s < N * N) × (shows a b s ≡ true))
      ↔ ((s < N * N) × ((first (s / N) (s % N) ≡ a) × (second (s / N) (s % N) ≡ b)))
  same_pair a b s = (
    (λ (l, e). let (ea, eb) = both_true (eqb (first (s / N) (s % N)) a) (eqb (second (s / N) (s % N)) b) e in
        (l, (eqb-true _ a ea, eqb-true _ b eb))),
    (λ (l, (ea, eb)). (l, ap₂ ◌&&◌ (eq-eqb _ a ea) (eq-eqb _ b eb))),
  )

  pub orthogonal_means : (is_orthogonal N first second ≡ true) ↔ Orthogonal N first second
  orthogonal_means = (
    (λ e a b ha hb.
        exactly_one_same (λ (site : Site). ((λ (on, (ea, eb)). (on, ea, eb)), (λ (on, ea, eb). (on, (ea, eb)))))
        ((sites_unique (omega arith) (pair a b)).0
        (exactly_one_same (same_pair a b)
        ((count_unique (shows a b) (N * N)).0
        (eqb-true _ 1 (all_at (one_site a) N (all_at (λ a. all_below N (one_site a)) N e a ha) b hb)))))),
    (λ o.
        all_true (λ a. all_below N (one_site a)) N
        (λ a ha. all_true (one_site a) N
        (λ b hb. eq-eqb _ 1
        ((count_unique (shows a b) (N * N)).1
        (exactly_one_same (λ s. Iff.symm (same_pair a b s))
        ((sites_unique (omega arith) (pair a b)).1
        (exactly_one_same (λ (site : Site). ((λ (on, ea, eb). (on, (ea, eb))), (λ (on, (ea, eb)). (on, ea, eb)))) (o a b ha hb)))))))),
  )
    where
      pair : ℕ → ℕ → ℕ → ℕ → Type 0
      pair a b row col = (first row col ≡ a) × (second row col ≡ b)
