-- A rule of a table of numbers, from one test that is computed over the whole table; and the cases of a `match` that has its entries.
use mathlib.Core.Bool.{Bool, true, false, ◌&&◌}
use mathlib.Core.List.{List, [], ◌∷◌, map}
use mathlib.Core.Logic.{◌⊎◌, inl, inr}
use mathlib.Core.Path.{◌≡◌, ◌∙◌, sym, ap, subst}
use Prim.Native.Nat.{ℕ, zero, suc, ◌+◌, ◌<◌}
use native.Mathlib.Nat.{add-zero, zero-add, add-suc, suc-add, le_of_suc-le-suc, not-suc-le-zero}
use native.Mathlib.Decide.{ℕ_discrete}
use native.Mathlib.Omega.{arith}
use lib.Dec.{T, ltb, ltb→lt}
use lib.ListN.{length, get_or}
use Rattle.loops.specs.Loops.{numbers}
use Rattle.loops.proofs.Loops.{listed_numbers, listed_map}

left : (a b : Bool) → T (a && b) → T a
left true b t = tt
left false b t = t

right : (a b : Bool) → T (a && b) → T b
right true b t = t
right false b t = absurd t

-- the test passes at each entry and its place, counted from i
abbrev pub every : (ℕ → ℕ → Bool) → ℕ → List ℕ → Bool
every test i [] = true
every test i (x ∷ xs) = test i x && every test (suc i) xs

from : (test : ℕ → ℕ → Bool) (xs : List ℕ) (i : ℕ) → T (every test i xs) → (k : ℕ) → k < length xs → T (test (i + k) (get_or xs k 0))
from test [] i t k h = absurd (not-suc-le-zero h)
from test (x ∷ xs) i t zero h = subst (λ (m : ℕ). T (test m x)) (sym (add-zero i)) (left (test i x) (every test (suc i) xs) t)
from test (x ∷ xs) i t (suc k) h =
    subst (λ (m : ℕ). T (test m (get_or xs k 0))) (suc-add i k ∙ sym (add-suc i k))
    (from test xs (suc i) (right (test i x) (every test (suc i) xs) t) k (le_of_suc-le-suc h))

pub entry : (test : ℕ → ℕ → Bool) (xs : List ℕ) → T (every test 0 xs) → (k : ℕ) → k < length xs → T (test k (get_or xs k 0))
entry test xs t k h = subst (λ (m : ℕ). T (test m (get_or xs k 0))) (zero-add k) (from test xs 0 t k h)

-- ---- a table that has a function's values at 0, 1 and so on
module _ (value : ℕ → ℕ) (table : List ℕ) (is : map value (numbers 0 (length table)) ≡ table) where
  pub at_place : (k : ℕ) → k < length table → get_or table k 0 ≡ value k
  at_place k h =
      ap (λ (l : List ℕ). get_or l k 0) (sym is) ∙ (listed_map value 0 (listed_numbers 0 (length table))).stands k h ∙ ap value (zero-add k)

  -- the case of the key k in a `match` on x
  pub at_key : (k : ℕ) → T (ltb k (length table)) → {x : ℕ} → x ≡ k → get_or table k 0 ≡ value x
  at_key k in_table e = at_place k (ltb→lt k (length table) in_table) ∙ ap value (sym e)

-- x is none of the keys 1 to m, as the default case of a `match` knows it.
abbrev pub NoneOf : ℕ → ℕ → Type 0
NoneOf zero x = Unit
NoneOf (suc m) x = NoneOf m x × (x ≡ suc m → ⊥)

pub none_of : (m x : ℕ) → NoneOf m x → (x < 1) ⊎ (m < x)
none_of zero x none = go (ℕ_discrete x 0)
  where
    go : Dec (x ≡ 0) → (x < 1) ⊎ (0 < x)
    go (yes e) = inl (omega arith)
    go (no e) = inr (omega arith)
none_of (suc m) x (none, other) = go (none_of m x none)
  where
    go : (x < 1) ⊎ (m < x) → (x < 1) ⊎ (suc m < x)
    go (inl l) = inl l
    go (inr l) = inr (omega arith)
