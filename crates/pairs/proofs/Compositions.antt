-- Compositions by the gaps between n ones: a comma in the first gap gives the degree 1 and a composition of the rest, a plus makes the
-- first degree of a composition of the rest longer by 1. The comma comes first in dictionary order. Pascal's rule counts them.
use Prim.Native.Nat.{ℕ, zero, suc, ◌+◌, ◌-◌, ◌*◌, ◌/◌, ◌≤◌, ◌<◌}
use native.Mathlib.Numerals.{sub-one}
use native.Mathlib.Nat.{zero-div, suc-sub-suc, le_refl, add-sub_of_le, add-sub_cancel_left}
use native.Mathlib.Decide.{dec_lt}
use native.Mathlib.Omega.{arith}
use mathlib.Core.Path.{◌≡◌, refl, sym, ap}
use mathlib.Core.Bool.{cond}
use mathlib.Core.List.{List, [], ◌∷◌, ◌++◌, map, map-map}
use lib.ListN.{length}
use lib.Dec.{ltb}
use lib.Arith.{lt-one}
use borrow.Author.Tests.{lt-ltb, le-ltb}
use Rattle.loops.proofs.Loops.{Listed, listed_map, listed_append, numbers_suc, each_map, map_each}
use Rattle.pairs.specs.Counts.{choose, sum}
use Rattle.pairs.specs.Sequences.{compositions}
use Rattle.pairs.proofs.Valid.{EachPositive}
use Rattle.pairs.proofs.Binomial.{choose_down}

-- The number of compositions of n into k parts.
abbrev pub parts : ℕ → ℕ → ℕ
parts zero zero = 1
parts zero (suc k) = 0
parts (suc n) zero = 0
parts (suc n) (suc k) = choose n k

-- A plus in the first gap.
abbrev pub longer : List ℕ → List ℕ
longer [] = []
longer (d ∷ ds) = suc d ∷ ds

-- The composition at index i: a comma in the first gap if i is below the number of compositions that follow it.
abbrev pub composition_at : ℕ → ℕ → ℕ → List ℕ
composition_at zero k i = []
composition_at (suc n) zero i = []
composition_at (suc n) (suc k) i =
    let comma : List ℕ = 1 ∷ composition_at n k i in
    let plus : List ℕ = longer (composition_at n (suc k) (i - parts n k)) in
    cond (ltb i (parts n k)) comma plus

-- The index of a composition of n.
abbrev pub composition_rank : ℕ → List ℕ → ℕ
composition_rank zero ds = 0
composition_rank (suc n) [] = 0
composition_rank (suc n) (zero ∷ ds) = 0
composition_rank (suc n) (suc zero ∷ ds) = composition_rank n ds
composition_rank (suc n) (suc (suc d) ∷ ds) = parts n (length ds) + composition_rank n (suc d ∷ ds)

pub pascal : (n k : ℕ) → parts (suc n) (suc k) ≡ parts n k + parts n (suc k)
pascal zero zero = refl
pascal zero (suc k) = refl
pascal (suc n) zero = refl
pascal (suc n) (suc k) = refl

-- The compositions that begin with 1 are this share of all of n + 2 into k + 1 parts.
pub parts_share : (n k : ℕ) → parts (suc n) k ≡ choose (suc n) k * k / suc n
parts_share n zero = sym (zero-div (suc n))
parts_share n (suc k) = choose_down n k

compositions_suc : (n k : ℕ) → compositions (suc n) (suc k) ≡ map (◌∷◌ 1) (compositions n k) ++ map longer (compositions n (suc k))
unfolding compositions
compositions_suc n k = simp (numbers_suc 1 n, each_map, sub-one, suc-sub-suc, map_each, map-map)

pub listed_compositions : (n k : ℕ) → Listed (compositions n k) (parts n k) (composition_at n k) []
unfolding compositions
listed_compositions zero zero = record { long = refl; stands = λ i h. rw (lt-one h) }
listed_compositions zero (suc k) = record { long = refl; stands = λ i h. refl }
listed_compositions (suc n) zero = record { long = refl; stands = λ i h. refl }
listed_compositions (suc n) (suc k) =
    rw (compositions_suc n k, pascal n k)
    (listed_append (listed_map (◌∷◌ 1) [] (listed_compositions n k)) (listed_map longer [] (listed_compositions n (suc k))))

pub length_compositions : (n k : ℕ) → length (compositions (suc n) (suc k)) ≡ choose n k
length_compositions n k = (listed_compositions (suc n) (suc k)).long

pub compositions_count : (n k : ℕ) → 1 ≤ n → 1 ≤ k → length (compositions n k) ≡ choose (n - 1) (k - 1)
compositions_count zero k h l = absurd (omega arith)
compositions_count (suc n) zero h l = absurd (omega arith)
compositions_count (suc n) (suc k) h l = rw (sub-one, sub-one) (length_compositions n k)

-- What the composition at index i is known by.
pub record CompositionAt (n k i : ℕ) (ds : List ℕ) : Type 0 where
  pub long : length ds ≡ k
  pub positive : EachPositive ds
  pub total : sum ds ≡ n
  pub rank : composition_rank n ds ≡ i

pub composition_at_known : (n k i : ℕ) → i < parts n k → CompositionAt n k i (composition_at n k i)
composition_at_known zero zero i h = record { long = refl; positive = tt; total = refl; rank = omega arith }
composition_at_known zero (suc k) i h = absurd (omega arith)
composition_at_known (suc n) zero i h = absurd (omega arith)
composition_at_known (suc n) (suc k) i h = elim (dec_lt i (parts n k)) [
  | yes a ↦ rw (lt-ltb i (parts n k) a) (comma (composition_at_known n k i a))
  | no b ↦ let a : parts n k ≤ i = omega arith in
      rw (le-ltb i (parts n k) a)
      (plus a (composition_at n (suc k) (i - parts n k)) (composition_at_known n (suc k) (i - parts n k) (omega (arith, pascal n k))))
]
  where
    comma : {ds : List ℕ} → CompositionAt n k i ds → CompositionAt (suc n) (suc k) i (1 ∷ ds)
    comma c = record { long = ap suc c.long; positive = (le_refl 1, c.positive); total = omega arith; rank = c.rank }

    plus : parts n k ≤ i → (ds : List ℕ) → CompositionAt n (suc k) (i - parts n k) ds → CompositionAt (suc n) (suc k) i (longer ds)
    plus a [] c = absurd (omega (arith, c.long))
    plus a (zero ∷ ds) c = absurd (omega (arith, c.positive.0))
    plus a (suc d ∷ ds) c =
        let same : length ds ≡ k = omega (arith, c.long) in
        record {
          long = c.long;
          positive = (omega arith, c.positive.1);
          total = omega (arith, c.total);
          rank = rw (same, c.rank) (add-sub_of_le a);
        }

pub composition_rank_lt : (n : ℕ) (ds : List ℕ) → EachPositive ds → sum ds ≡ n → composition_rank n ds < parts n (length ds)
composition_rank_lt zero [] p e = le_refl 1
composition_rank_lt zero (d ∷ ds) p e = absurd (omega (arith, p.0))
composition_rank_lt (suc n) [] p e = absurd (omega arith)
composition_rank_lt (suc n) (zero ∷ ds) p e = absurd (omega (arith, p.0))
composition_rank_lt (suc n) (suc zero ∷ ds) p e =
    let ih : _ = composition_rank_lt n ds p.1 (omega arith) in
    omega (arith, pascal n (length ds))
composition_rank_lt (suc n) (suc (suc d) ∷ ds) p e =
    let ih : _ = composition_rank_lt n (suc d ∷ ds) (omega arith, p.1) (omega arith) in
    omega (arith, pascal n (length ds))

pub composition_at_rank : (n : ℕ) (ds : List ℕ) → EachPositive ds → sum ds ≡ n → composition_at n (length ds) (composition_rank n ds) ≡ ds
composition_at_rank zero [] p e = refl
composition_at_rank zero (d ∷ ds) p e = absurd (omega (arith, p.0))
composition_at_rank (suc n) [] p e = refl
composition_at_rank (suc n) (zero ∷ ds) p e = absurd (omega (arith, p.0))
composition_at_rank (suc n) (suc zero ∷ ds) p e =
    rw (lt-ltb _ _ (composition_rank_lt n ds p.1 (omega arith))) (ap (◌∷◌ 1) (composition_at_rank n ds p.1 (omega arith)))
composition_at_rank (suc n) (suc (suc d) ∷ ds) p e =
    rw (le-ltb (parts n (length ds) + composition_rank n (suc d ∷ ds)) (parts n (length ds)) (omega arith), add-sub_cancel_left)
    (ap longer (composition_at_rank n (suc d ∷ ds) (omega arith, p.1) (omega arith)))
