-- The pass that asks whether levels rise: what is said of the whole list is said of what is left. And levels that rise differ: a level
-- above the one before it is above all before it.
use mathlib.Core.Path.{◌≡◌, refl}
use Prim.Native.Nat.{ℕ, suc, ◌+◌, ◌-◌, ◌≤◌, ◌<◌}
use mathlib.Core.Bool.{Bool, false, true, not, ◌||◌, or-true, or-false, not-not}
use mathlib.Core.List.{List, [], ◌∷◌}
use native.Mathlib.Numerals.{add-one}
use native.Mathlib.Omega.{arith}
use lib.ListN.{length, get_or, drop, drop_of_length-le}
use lib.Seq.{drop-cons}
use lib.Dec.{leb}
use borrow.Author.Tests.{le-leb, lt-leb, leb-false, ne_eqb}
use Rattle.poly.proofs.Ranges.{neither}
use Rattle.levels.specs.Levels.{any_barred, repeated, not_above}

-- What holds at the head of the loop: either a level passed is not above the one before it, or it is for those left to say.
pub record Rising (levels : List ℕ) (good : Bool) (i : ℕ) : Type 0 where
  pub earlier : List ℕ
  pub same : any_barred not_above [] levels ≡ (not good || any_barred not_above (get_or levels (i - 1) 0 ∷ earlier) (drop i levels))
  pub begun : 1 ≤ i

pub first_rising : (levels : List ℕ) → Rising levels true 1
first_rising [] = record { earlier = []; same = refl; begun = omega arith }
first_rising (level ∷ levels) = record { earlier = []; same = refl; begun = omega arith }

module _ {levels : List ℕ} {good : Bool} {i : ℕ} (s : Rising levels good i) where
  pub all_rising : length levels ≤ i → good ≡ not (any_barred not_above [] levels)
  all_rising h = rw (s.same, drop_of_length-le levels h, or-false, not-not)

  module _ (there : i < length levels) where
    abbrev previous : ℕ
    previous = get_or levels (i - 1) 0

    abbrev level : ℕ
    level = get_or levels i 0

    here : any_barred not_above [] levels
        ≡ (not good || (leb level previous || any_barred not_above (level ∷ previous ∷ s.earlier) (drop (suc i) levels)))
    here = rw (s.same, drop-cons levels i 0 there)

    pub not_rising : level ≤ previous → Rising levels false (i + 1)
    not_rising h =
        record {
          earlier = previous ∷ s.earlier;
          same = rw (here, le-leb level previous h) (or-true (not good));
          begun = omega arith;
        }

    pub one_rising : previous < level → Rising levels good (i + 1)
    one_rising h =
        let back : i + 1 - 1 ≡ i = omega arith in
        record {
          earlier = previous ∷ s.earlier;
          same = rw (back, add-one i, here, lt-leb level previous h);
          begun = omega arith;
        }

-- What document 01's rule lets follow these levels, today's rule does.
abbrev pub Stricter : List ℕ → Type 0
Stricter before = (level : ℕ) → not_above before level ≡ false → repeated before level ≡ false

pub none_before : Stricter []
none_before level e = refl

still_above : (before : List ℕ) {level next : ℕ} → not_above before level ≡ false → level < next → not_above before next ≡ false
still_above [] e h = refl
still_above (previous ∷ earlier) {level} {next} e h = lt-leb next previous (omega (arith, leb-false level previous e))

pub one_before : (before : List ℕ) (level : ℕ) → Stricter before → not_above before level ≡ false → Stricter (level ∷ before)
one_before before level s e next e' =
    let more : level < next = leb-false next level e' in
    rw (ne_eqb next level (λ same. omega arith)) (s next (still_above before e more))

pub rising_differ : (before levels : List ℕ) → Stricter before → any_barred not_above before levels ≡ false
    → any_barred repeated before levels ≡ false
rising_differ before [] s e = refl
rising_differ before (level ∷ levels) s e =
    let n = neither (not_above before level) _ e in
    rw (s level n.0) (rising_differ (level ∷ before) levels (one_before before level s n.0) n.1)
