-- A list passes exactly where any two of its entries at different places differ: of two places the later one holds none of the levels
-- before it, and so not that of the earlier one.
use mathlib.Core.Path.{◌≡◌, refl, sym}
use mathlib.Core.Logic.{◌≢◌}
use Prim.Native.Nat.{ℕ, zero, suc, ◌<◌}
use mathlib.Core.Bool.{false}
use mathlib.Core.List.{List, [], ◌∷◌}
use native.Mathlib.Decide.{dec_lt}
use native.Mathlib.Omega.{arith}
use lib.Dec.{eqb}
use lib.ListN.{length, get_or}
use borrow.Author.Tests.{eqb-false, ne_eqb}
use Rattle.poly.proofs.Ranges.{neither}
use Rattle.levels.specs.Levels.{any_barred, repeated, repeats}
use Rattle.levels.specs.Claims.{DifferClaim}

-- No level of a list is one of those before the list.
abbrev Fresh : List ℕ → List ℕ → Type 0
Fresh before levels = (i : ℕ) → i < length levels → repeated before (get_or levels i 0) ≡ false

-- Of any two places the levels differ.
abbrev Later : List ℕ → Type 0
Later levels = (i j : ℕ) → i < j → j < length levels → get_or levels i 0 ≢ get_or levels j 0

fresh : (before levels : List ℕ) → any_barred repeated before levels ≡ false → Fresh before levels
fresh before [] e i h = absurd (omega arith)
fresh before (level ∷ levels) e zero h = (neither (repeated before level) _ e).0
fresh before (level ∷ levels) e (suc i) h =
    (neither (eqb (get_or levels i 0) level) _ (fresh (level ∷ before) levels (neither (repeated before level) _ e).1 i (omega arith))).1

later : (before levels : List ℕ) → any_barred repeated before levels ≡ false → Later levels
later before [] e i j l h = absurd (omega arith)
later before (level ∷ levels) e i zero l h = absurd (omega arith)
later before (level ∷ levels) e zero (suc j) l h =
    let f = fresh (level ∷ before) levels (neither (repeated before level) _ e).1 j (omega arith) in
    λ same. eqb-false (get_or levels j 0) level (neither (eqb (get_or levels j 0) level) _ f).0 (sym same)
later before (level ∷ levels) e (suc i) (suc j) l h =
    later (level ∷ before) levels (neither (repeated before level) _ e).1 i j (omega arith) (omega arith)

none_repeated : (before levels : List ℕ) → Fresh before levels → Later levels → any_barred repeated before levels ≡ false
none_repeated before [] f l = refl
none_repeated before (level ∷ levels) f l =
    rw (f 0 (omega arith))
    (none_repeated (level ∷ before) levels
    (λ i h.
    rw (ne_eqb (get_or levels i 0) level (λ same. l 0 (suc i) (omega arith) (omega arith) (sym same)))
    (f (suc i) (omega arith)))
    (λ i j h h'. l (suc i) (suc j) (omega arith) (omega arith)))

-- Equal levels stand at one place.
pub one_place : (levels : List ℕ) → repeats levels ≡ false
    → (i j : ℕ) → i < length levels → j < length levels → get_or levels i 0 ≡ get_or levels j 0 → i ≡ j
one_place levels e i j hi hj same = go (dec_lt i j) (dec_lt j i)
  where
    go : Dec (i < j) → Dec (j < i) → i ≡ j
    go (yes l) d = absurd (later [] levels e i j l hj same)
    go (no _) (yes l) = absurd (later [] levels e j i l hi (sym same))
    go (no a) (no b) = omega arith

pub differ : DifferClaim
differ levels = (
  (λ e i j hi hj other same. omega (arith, other, one_place levels e i j (omega arith) (omega arith) same)),
  (λ d. none_repeated [] levels (λ i h. refl) (λ i j l h. d i j (omega arith) h (omega arith))),
)
