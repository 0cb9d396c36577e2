-- Laws of `any_above`: one number more, one number read, one number written.
use mathlib.Core.Bool.{false, ◌||◌, or-false, or_assoc}
use mathlib.Core.List.{List, [], ◌∷◌}
use mathlib.Core.Path.{◌≡◌, refl}
use Prim.Native.Nat.{ℕ, zero, suc, ◌+◌, ◌≤◌, ◌<◌}
use native.Mathlib.Numerals.{add-one}
use native.Mathlib.Omega.{arith}
use borrow.Author.Tests.{ltb-false, le-ltb}
use lib.Dec.{ltb}
use lib.ListN.{length, get_or, take, set}
use Rattle.poly.proofs.Ranges.{neither}
use Rattle.walk.specs.Walks.{any_above}

module _ (most : ℕ) where
  above_take : (i : ℕ) (l : List ℕ) → i < length l
      → any_above most (take (suc i) l) ≡ (any_above most (take i l) || ltb most (get_or l i 0))
  above_take i [] h = absurd (omega arith)
  above_take zero (x ∷ l) h = or-false (ltb most x)
  above_take (suc i) (x ∷ l) h = rw (above_take i l (omega arith), or_assoc)

  -- the first i numbers and the next one
  pub above_next : (i : ℕ) (l : List ℕ) → i < length l
      → any_above most (take (i + 1) l) ≡ (any_above most (take i l) || ltb most (get_or l i 0))
  above_next i l h = rw (add-one i) (above_take i l h)

  -- where none is above, the one at any place is not; behind the list it is read as 0
  pub not_above_lem : (l : List ℕ) → any_above most l ≡ false → (i : ℕ) → get_or l i 0 ≤ most
  not_above_lem [] e i = omega arith
  not_above_lem (x ∷ l) e zero = ltb-false most x (neither (ltb most x) (any_above most l) e).0
  not_above_lem (x ∷ l) e (suc i) = not_above_lem l (neither (ltb most x) (any_above most l) e).1 i

  pub none_above : (l : List ℕ) → ((i : ℕ) → get_or l i 0 ≤ most) → any_above most l ≡ false
  none_above [] h = refl
  none_above (x ∷ l) h = rw (le-ltb most x (h 0)) (none_above l (λ i. h (suc i)))

  -- the same with one number replaced
  pub set_most : (l : List ℕ) → ((i : ℕ) → get_or l i 0 ≤ most) → (place v : ℕ) → v ≤ most → (i : ℕ) → get_or (set l place v) i 0 ≤ most
  set_most [] h place v le i = h i
  set_most (x ∷ l) h zero v le zero = le
  set_most (x ∷ l) h zero v le (suc i) = h (suc i)
  set_most (x ∷ l) h (suc place) v le zero = h 0
  set_most (x ∷ l) h (suc place) v le (suc i) = set_most l (λ i. h (suc i)) place v le i
