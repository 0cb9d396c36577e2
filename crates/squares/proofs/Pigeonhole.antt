-- An injective map of {0, .., N - 1} to itself takes each value exactly once. If it missed a value, closing the gap would leave an
-- injective map to fewer places; there is none, since the last place can be taken out together with its value, in the same way.
use mathlib.Core.Logic.{◌⊎◌, inl, inr}
use mathlib.Core.Path.{◌≡◌, sym, ap, ap₂, ◌∙◌}
use Prim.Native.Nat.{ℕ, zero, suc, ◌+◌, ◌-◌, ◌*◌, ◌/◌, ◌%◌, ◌<◌}
use native.Mathlib.Nat.{eq-or-lt_of_le, le_of_suc-le-suc, mod-lt, div-add-mod', div-lt_iff_lt-mul}
use native.Mathlib.Decide.{ℕ_discrete}
use native.Mathlib.Omega.{arith}
use lib.Arith.{digits_lt}
use Rattle.squares.specs.Squares.{Square, ExactlyOne, Site, On, Orthogonal}
use Rattle.squares.proofs.Codes.{digits_unique}

-- h takes the numbers below N to numbers below M, no two to the same
pub record Injective (N M : ℕ) (h : ℕ → ℕ) : Type 0 where
  pub into : (i : ℕ) → i < N → h i < M
  pub apart : (i j : ℕ) → i < N → j < N → h i ≡ h j → i ≡ j

-- what lies above the gap moves down by one
close : ℕ → ℕ → ℕ
close gap v = v - (1 - (gap - v))

close_lt : {gap v M : ℕ} → gap < suc M → v < suc M → (v ≡ gap → ⊥) → close gap v < M
unfolding close
close_lt gap_lt v_lt ne = omega arith

-- and up again
open_again : {gap v : ℕ} → (v ≡ gap → ⊥) → close gap v + (1 - (gap - close gap v)) ≡ v
unfolding close
open_again ne = omega arith

close_apart : {gap v w : ℕ} → (v ≡ gap → ⊥) → (w ≡ gap → ⊥) → close gap v ≡ close gap w → v ≡ w
close_apart {gap} nv nw e = sym (open_again nv) ∙ ap (λ (c : ℕ). c + (1 - (gap - c))) e ∙ open_again nw

closed : {N M gap : ℕ} {h : ℕ → ℕ} → Injective N (suc M) h → gap < suc M → ((i : ℕ) → i < N → h i ≡ gap → ⊥)
    → Injective N M (λ i. close gap (h i))
closed inj lt misses =
    record {
      into = λ i l. close_lt lt (inj.into i l) (misses i l);
      apart = λ i j li lj e. inj.apart i j li lj (close_apart (misses i li) (misses j lj) e);
    }

too_many : (M : ℕ) {h : ℕ → ℕ} → Injective (suc M) M h → ⊥
too_many zero inj = let l = inj.into 0 (omega arith) in omega arith
too_many (suc M) {h} inj =
    too_many M
    (closed (record { into = λ i l. inj.into i (omega arith); apart = λ i j li lj. inj.apart i j (omega arith) (omega arith) })
    (inj.into (suc M) (omega arith))
    (λ i l e. let same : i ≡ suc M = inj.apart i (suc M) (omega arith) (omega arith) e in omega arith))

-- a place of the value below k, or none
Found : (ℕ → ℕ) → ℕ → ℕ → Type 0
Found h value k = ((i : ℕ) × (i < k) × (h i ≡ value)) ⊎ ((i : ℕ) → i < k → h i ≡ value → ⊥)

find : (h : ℕ → ℕ) (value k : ℕ) → Found h value k
unfolding Found
find h value zero = inr (λ i l e. omega arith)
find h value (suc k) = go (ℕ_discrete (h k) value) (find h value k)
  where
    go : Dec (h k ≡ value) → Found h value k → Found h value (suc k)
    go (yes e) f = inl (k, omega arith, e)
    go (no n) (inl (i, l, e)) = inl (i, omega arith, e)
    go (no n) (inr none) = inr (λ i l e. last i e (eq-or-lt_of_le (le_of_suc-le-suc l)))
      where
        last : (i : ℕ) → h i ≡ value → (i ≡ k) ⊎ (i < k) → ⊥
        last i e (inl same) = n (rw same at e)
        last i e (inr l) = none i l e

pub once : {N : ℕ} {h : ℕ → ℕ} → Injective N N h → (value : ℕ) → value < N → ExactlyOne (λ (i : ℕ). (i < N) × (h i ≡ value))
unfolding Found
once {N} {h} inj value lt =
    let (i, i_lt, e) = go (find h value N) in
    record { one = i; is = (i_lt, e); only = λ i j (li, ei) (lj, ej). inj.apart i j li lj (ei ∙ sym ej) }
  where
    -- a missed value leaves too few places
    missed : (N : ℕ) → Injective N N h → value < N → ((i : ℕ) → i < N → h i ≡ value → ⊥) → ⊥
    missed zero inj lt none = omega arith
    missed (suc M) inj lt none = too_many M (closed inj lt none)

    go : Found h value N → (i : ℕ) × (i < N) × (h i ≡ value)
    go (inl found) = found
    go (inr none) = absurd (missed N inj lt none)

-- the same for pairs: two squares that show no pair of symbols at two sites show each at one
module _ {N : ℕ} {first second : Square}
    (first_lt : (row col : ℕ) → row < N → col < N → first row col < N)
    (second_lt : (row col : ℕ) → row < N → col < N → second row col < N)
    (same : (row row' col col' : ℕ) → row < N → row' < N → col < N → col' < N
    → first row col ≡ first row' col' → second row col ≡ second row' col' → (row ≡ row') × (col ≡ col')) where
  -- sites and pairs of symbols as numbers below N * N
  pair : ℕ → ℕ
  pair X = first (X / N) (X % N) * N + second (X / N) (X % N)

  module _ (pos : 0 < N) where
    row_lt : {X : ℕ} → X < N * N → X / N < N
    row_lt h = (div-lt_iff_lt-mul pos).1 h

    pair_is_lem : {X : ℕ} (a : ℕ) {b : ℕ} → X < N * N → b < N → pair X ≡ a * N + b
        → (first (X / N) (X % N) ≡ a) × (second (X / N) (X % N) ≡ b)
    unfolding pair
    pair_is_lem {X} a h hb e = digits_unique (first (X / N) (X % N)) a (second_lt (X / N) (X % N) (row_lt h) (mod-lt X pos)) hb e

    pair_injective : Injective (N * N) (N * N) pair
    unfolding pair
    pair_injective =
        record {
          into = λ X h. digits_lt (first_lt (X / N) (X % N) (row_lt h) (mod-lt X pos)) (below X h);
          apart =
              λ X Y hX hY e.
              let (firsts, seconds) = pair_is_lem (first (Y / N) (Y % N)) hX (below Y hY) e in
              let (rows, cols) =
              same (X / N) (Y / N) (X % N) (Y % N) (row_lt hX) (row_lt hY) (mod-lt X pos) (mod-lt Y pos) firsts seconds in
              sym (div-add-mod' X N) ∙ ap₂ (λ (r c : ℕ). r * N + c) rows cols ∙ div-add-mod' Y N;
        }
      where
        below : (X : ℕ) → X < N * N → second (X / N) (X % N) < N
        below X h = second_lt (X / N) (X % N) (row_lt h) (mod-lt X pos)

  pub crossed : Orthogonal N first second
  crossed a b ha hb = site (once (pair_injective pos) (a * N + b) (digits_lt ha hb))
    where
      pos : 0 < N
      pos = omega arith

      site : ExactlyOne (λ (X : ℕ). (X < N * N) × (pair X ≡ a * N + b))
          → ExactlyOne (λ (s : Site). On N s × (first s.row s.col ≡ a) × (second s.row s.col ≡ b))
      site found =
          let X : ℕ = found.one in
          let (lt, e) = found.is in
          record {
            one = record { row = X / N; col = X % N };
            is = let (firsts, seconds) = pair_is_lem pos a lt hb e in ((row_lt pos lt, mod-lt X pos), firsts, seconds);
            only =
                λ s t (on_s, fs, gs) (on_t, ft, gt).
                let (rows, cols) =
                same s.row t.row s.col t.col on_s.0 on_t.0 on_s.1 on_t.1 (fs ∙ sym ft) (gs ∙ sym gt) in
                ap₂ (λ (r c : ℕ). record { row = r; col = c }) rows cols;
          }
