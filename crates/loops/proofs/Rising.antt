-- Lists that rise: each entry stands in a relation to all behind it. A nested loop rises where its loops do, and in a list that rises
-- strictly nothing stands twice.
use Prim.Native.Nat.{ℕ, zero, suc, ◌<◌}
use native.Mathlib.Decide.{dec_lt}
use native.Mathlib.Omega.{arith}
use mathlib.Core.Logic.{◌⊎◌, inl, inr}
use mathlib.Core.Path.{◌≡◌, refl, subst}
use mathlib.Core.Bool.{Bool, true, false, cond}
use mathlib.Core.List.Memᴰ
use mathlib.Core.List.{List, [], ◌∷◌, ◌++◌, map, Memᴰ}
use lib.ListN.{length, get_or}
use Rattle.loops.specs.Loops.{numbers, each, filter}
use Rattle.loops.proofs.Members.{entry_in, in_filter, in_each, in_numbers}

abbrev pub Rises : {A : Type 0} → (A → A → Type 0) → List A → Type 0
Rises r [] = Unit
Rises {A} r (x ∷ xs) = ((y : A) → Memᴰ y xs → r x y) × Rises r xs

module _ {A : Type 0} (r : A → A → Type 0) where
  pub rising_at : (xs : List A) (d : A) → Rises r xs → (i j : ℕ) → i < j → j < length xs → r (get_or xs i d) (get_or xs j d)
  rising_at [] d up i j lt h = absurd (omega arith)
  rising_at (x ∷ xs) d up i zero lt h = absurd (omega arith)
  rising_at (x ∷ xs) d (first, up) zero (suc j) lt h = first (get_or xs j d) (entry_in xs j d (omega arith))
  rising_at (x ∷ xs) d (first, up) (suc i) (suc j) lt h = rising_at xs d up i j (omega arith) (omega arith)

  -- one place for each entry
  pub only_place : ((x : A) → r x x → ⊥) → (xs : List A) (d : A) → Rises r xs → (i j : ℕ) → i < length xs → j < length xs
      → get_or xs i d ≡ get_or xs j d → i ≡ j
  only_place strict xs d up i j hi hj e = go (dec_lt i j) (dec_lt j i)
    where
      go : Dec (i < j) → Dec (j < i) → i ≡ j
      go (yes lt) gt = absurd (strict (get_or xs j d) (rw e at (rising_at xs d up i j lt hj)))
      go (no lt) (yes gt) = absurd (strict (get_or xs j d) (rw e at (rising_at xs d up j i gt hi)))
      go (no lt) (no gt) = omega arith

  pub rising_append : (s t : List A) → Rises r s → Rises r t → ((x y : A) → Memᴰ x s → Memᴰ y t → r x y) → Rises r (s ++ t)
  rising_append [] t up up' across = up'
  rising_append (x ∷ s) t (first, up) up' across =
      (λ y m. go y (Memᴰ.append_cases s m), rising_append s t up up' (λ u v m. across u v (Memᴰ.tail m)))
    where
      go : (y : A) → Memᴰ y s ⊎ Memᴰ y t → r x y
      go y (inl m) = first y m
      go y (inr m) = across x y (Memᴰ.head refl) m

  pub rising_filter : (test : A → Bool) (xs : List A) → Rises r xs → Rises r (filter test xs)
  rising_filter test [] up = up
  rising_filter test (x ∷ xs) (first, up) = go (test x) (rising_filter test xs up)
    where
      go : (t : Bool) → Rises r (filter test xs) → Rises r (cond t (x ∷ filter test xs) (filter test xs))
      go true below = (λ y m. first y (in_filter test xs m).0, below)
      go false below = below

module _ {A B : Type 0} (r : A → A → Type 0) (s : B → B → Type 0) where
  pub rising_each : (f : A → List B) → ((x : A) → Rises s (f x))
      → ((x x' : A) → r x x' → (y y' : B) → Memᴰ y (f x) → Memᴰ y' (f x') → s y y') → (xs : List A) → Rises r xs
      → Rises s (each xs f)
  rising_each f inner across [] up = up
  rising_each f inner across (x ∷ xs) (first, up) =
      rising_append s (f x) (each xs f) (inner x) (rising_each f inner across xs up)
      (λ y y' m m'. let e = in_each f xs m' in across x e.0 (first e.0 e.1) y y' m e.2)

  pub rising_map : (f : A → B) → ((x x' : A) → r x x' → s (f x) (f x')) → (xs : List A) → Rises r xs → Rises s (map f xs)
  rising_map f across [] up = up
  rising_map f across (x ∷ xs) (first, up) =
      (λ y m. let e = Memᴰ.of_map f xs m in subst (s (f x)) e.2 (across x e.0 (first e.0 e.1)), rising_map f across xs up)

pub rising_numbers : (a m : ℕ) → Rises ◌<◌ (numbers a m)
rising_numbers a zero = tt
rising_numbers a (suc m) = (λ y k. omega (arith, (in_numbers (suc a) m k).0), rising_numbers (suc a) m)
