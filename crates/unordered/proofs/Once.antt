-- The second list holds one of each two: the position of a coprime pair is 2i or 2i + 1, and entry i is the pair or its swap.
use Prim.Native.Nat.{ℕ, ◌*◌, ◌/◌, ◌%◌, ◌<◌}
use native.Mathlib.Decide.{dec_lt}
use native.Mathlib.Omega.{arith}
use mathlib.Core.Logic.{inl, inr}
use mathlib.Core.Path.{◌≡◌, ap, ◌∙◌}
use lib.ListN.{length}
use Rattle.euclid.specs.Chain.{Pair}
use Rattle.pairs.specs.Pairs.{pairs, entry}
use Rattle.pairs.specs.Claims.{Stands}
use Rattle.pairs.proofs.Pairs.{length_pairs}
use Rattle.pairs.proofs.Standing.{entries_coprime, coprime_stands}
use Rattle.unordered.specs.Unordered.{swap, other, unordered_length}
use Rattle.unordered.specs.Claims.{Holds, HeldOnce, OnceClaim}
use Rattle.unordered.proofs.Flips.{other_is}
use Rattle.unordered.proofs.Swaps.{length_even, other_lt, other_swaps}

-- ---- half a position, doubled
pub half_even : (j : ℕ) → j % 2 < 1 → 2 * (j / 2) ≡ j
half_even j e = omega arith

pub half_odd : (j : ℕ) → (j % 2 < 1 → ⊥) → 2 * (j / 2) ≡ other j
half_odd j e = omega (arith, other_is j)

pub halves : (n : ℕ) → 2 * unordered_length n ≡ length (pairs n)
halves n = omega (arith, length_even n, length_pairs n)

held_once : (n : ℕ) (pair : Pair) → Stands n pair → HeldOnce n pair
held_once n pair s = record { index = i / 2; below = omega (arith, s.below, halves n); there = there; only = only }
  where
    i : ℕ
    i = s.position

    there : Holds n (i / 2) pair
    there = elim (dec_lt (i % 2) 1) [
      | yes e ↦ inl (ap (entry n) (half_even i e) ∙ s.there)
      | no e ↦ inr (ap (entry n) (half_odd i e) ∙ other_swaps n i s.below ∙ ap swap s.there)
    ]

    only : (j : ℕ) → j < unordered_length n → Holds n j pair → j ≡ i / 2
    only j h (inl e) = omega (arith, s.only (2 * j) (omega (arith, halves n)) e)
    only j h (inr e) =
        let below : 2 * j < length (pairs n) = omega (arith, halves n) in
        let at : other (2 * j) ≡ i = s.only (other (2 * j)) (other_lt n (2 * j) below) (other_swaps n (2 * j) below ∙ ap swap e) in
        omega (arith, other_is (2 * j))

pub one_of_two : OnceClaim
one_of_two n pos =
    record {
      halved = halves n;
      coprime = λ j h. entries_coprime n (2 * j) (omega (arith, halves n));
      once = λ pair c. held_once n pair (coprime_stands n pos pair c);
    }
