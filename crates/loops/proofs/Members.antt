-- What is a member of a loop's list, in both directions: what its members are known by, and that whatever is known by it is a member.
use Prim.Native.Nat.{ℕ, zero, suc, ◌+◌, ◌≤◌, ◌<◌}
use native.Mathlib.Decide.{dec_lt}
use native.Mathlib.Omega.{arith}
use mathlib.Core.Logic.{◌⊎◌, inl, inr}
use mathlib.Core.Path.{◌≡◌, refl, sym, ap, ap₂, ◌∙◌}
use mathlib.Core.Bool.{Bool, true, false, cond, true≢false}
use mathlib.Core.List.Memᴰ
use mathlib.Core.List.{List, [], ◌∷◌, ◌++◌, Memᴰ}
use lib.ListN.{length, get_or}
use Rattle.loops.specs.Loops.{numbers, each, filter}
use Rattle.loops.proofs.Loops.{total}

-- x stands in the list at a place; d is the default of `get_or`.
pub record Located {A : Type 0} (xs : List A) (d x : A) : Type 0 where
  pub place : ℕ
  pub below : place < length xs
  pub is : get_or xs place d ≡ x

module _ {A : Type 0} where
  -- each entry is a member, and each member stands at a place
  pub entry_in : (xs : List A) (i : ℕ) (d : A) → i < length xs → Memᴰ (get_or xs i d) xs
  entry_in [] i d h = absurd (omega arith)
  entry_in (x ∷ xs) zero d h = Memᴰ.head refl
  entry_in (x ∷ xs) (suc i) d h = Memᴰ.tail (entry_in xs i d (omega arith))

  pub located : (xs : List A) (d : A) {x : A} → Memᴰ x xs → Located xs d x
  located [] d m = absurd (Memᴰ.not-nil m)
  located (y ∷ ys) d {x} m = go (located ys d) (Memᴰ.cases_cons m)
    where
      go : (Memᴰ x ys → Located ys d x) → (x ≡ y) ⊎ Memᴰ x ys → Located (y ∷ ys) d x
      go later (inl e) = record { place = 0; below = omega arith; is = sym e }
      go later (inr m) = let p = later m in record { place = suc p.place; below = omega (arith, p.below); is = p.is }

  module _ (test : A → Bool) where
    pub in_filter : (xs : List A) {x : A} → Memᴰ x (filter test xs) → Memᴰ x xs × (test x ≡ true)
    in_filter [] m = absurd (Memᴰ.not-nil m)
    in_filter (y ∷ ys) {x} m = go (test y) refl (λ (m : Memᴰ x (filter test ys)). in_filter ys m) m
      where
        later : Memᴰ x ys × (test x ≡ true) → Memᴰ x (y ∷ ys) × (test x ≡ true)
        later (m, passes) = (Memᴰ.tail m, passes)

        first : (test y ≡ true) → (Memᴰ x (filter test ys) → Memᴰ x ys × (test x ≡ true))
            → (x ≡ y) ⊎ Memᴰ x (filter test ys) → Memᴰ x (y ∷ ys) × (test x ≡ true)
        first passes below (inl e) = (Memᴰ.head e, ap test e ∙ passes)
        first passes below (inr m) = later (below m)

        go : (t : Bool) → test y ≡ t → (Memᴰ x (filter test ys) → Memᴰ x ys × (test x ≡ true))
            → Memᴰ x (cond t (y ∷ filter test ys) (filter test ys)) → Memᴰ x (y ∷ ys) × (test x ≡ true)
        go true e below m = first e below (Memᴰ.cases_cons m)
        go false e below m = later (below m)

    pub filter_in : (xs : List A) {x : A} → Memᴰ x xs → test x ≡ true → Memᴰ x (filter test xs)
    filter_in [] m passes = absurd (Memᴰ.not-nil m)
    filter_in (y ∷ ys) {x} m passes =
        go (test y) refl (λ (m : Memᴰ x ys). filter_in ys m passes) (Memᴰ.cases_cons m)
      where
        go : (t : Bool) → test y ≡ t → (Memᴰ x ys → Memᴰ x (filter test ys)) → (x ≡ y) ⊎ Memᴰ x ys
            → Memᴰ x (cond t (y ∷ filter test ys) (filter test ys))
        go true e below (inl is) = Memᴰ.head is
        go true e below (inr m) = Memᴰ.tail (below m)
        go false e below (inl is) = absurd (true≢false (sym passes ∙ ap test is ∙ e))
        go false e below (inr m) = below m

  -- sizes that agree on the members have the same total
  pub total_same : (size size' : A → ℕ) (xs : List A) → ((x : A) → Memᴰ x xs → size x ≡ size' x) → total size xs ≡ total size' xs
  total_same size size' [] same = refl
  total_same size size' (x ∷ xs) same =
      ap₂ ◌+◌ (same x (Memᴰ.head refl)) (total_same size size' xs (λ y m. same y (Memᴰ.tail m)))

module _ {A B : Type 0} (f : A → List B) where
  pub in_each : (xs : List A) {y : B} → Memᴰ y (each xs f) → (x : A) × Memᴰ x xs × Memᴰ y (f x)
  in_each [] m = absurd (Memᴰ.not-nil m)
  in_each (x ∷ xs) {y} m = go (λ (m : Memᴰ y (each xs f)). in_each xs m) (Memᴰ.append_cases (f x) m)
    where
      go : (Memᴰ y (each xs f) → (z : A) × Memᴰ z xs × Memᴰ y (f z)) → Memᴰ y (f x) ⊎ Memᴰ y (each xs f)
          → (z : A) × Memᴰ z (x ∷ xs) × Memᴰ y (f z)
      go below (inl m) = (x, Memᴰ.head refl, m)
      go below (inr m) = let r = below m in (r.0, Memᴰ.tail r.1, r.2)

  pub each_in : (xs : List A) {x : A} {y : B} → Memᴰ x xs → Memᴰ y (f x) → Memᴰ y (each xs f)
  each_in [] m my = absurd (Memᴰ.not-nil m)
  each_in (z ∷ zs) {x} {y} m my = go (λ (m : Memᴰ x zs). each_in zs m my) (Memᴰ.cases_cons m)
    where
      go : (Memᴰ x zs → Memᴰ y (each zs f)) → (x ≡ z) ⊎ Memᴰ x zs → Memᴰ y (f z ++ each zs f)
      go below (inl e) = Memᴰ.append_left (each zs f) (rw e at my)
      go below (inr m) = Memᴰ.append_right (f z) (below m)

pub in_numbers : (a m : ℕ) {x : ℕ} → Memᴰ x (numbers a m) → (a ≤ x) × (x < a + m)
in_numbers a zero m = absurd (Memᴰ.not-nil m)
in_numbers a (suc k) {x} m = go (λ (m : Memᴰ x (numbers (suc a) k)). in_numbers (suc a) k m) (Memᴰ.cases_cons m)
  where
    go : (Memᴰ x (numbers (suc a) k) → (suc a ≤ x) × (x < suc a + k)) → (x ≡ a) ⊎ Memᴰ x (numbers (suc a) k)
        → (a ≤ x) × (x < a + suc k)
    go below (inl e) = (omega arith, omega arith)
    go below (inr m) = let (low, high) = below m in (omega arith, omega arith)

pub numbers_in : (a m : ℕ) {x : ℕ} → a ≤ x → x < a + m → Memᴰ x (numbers a m)
numbers_in a zero low high = absurd (omega arith)
numbers_in a (suc k) {x} low high = elim (dec_lt a x) [
  | yes l ↦ Memᴰ.tail (numbers_in (suc a) k (omega arith) (omega arith))
  | no l ↦ let e : x ≡ a = omega arith in Memᴰ.head e
]
