-- The search for f among all codes. What is kept: the triple that is sought stands at the place `rest` of those whose f has this half or a
-- greater one.
use Prim.Native.Nat.{ℕ, zero, suc, ◌+◌, ◌-◌, ◌^◌, ◌≤◌, ◌<◌}
use native.Mathlib.Nat.{add-zero}
use native.Mathlib.Omega.{arith}
use mathlib.Core.List.{List, ◌++◌, map}
use mathlib.Core.Path.{◌≡◌, refl, sym, ap, ◌∙◌}
use lib.ListN.{length, get_or}
use Rattle.loops.specs.Loops.{numbers, each}
use Rattle.loops.proofs.Loops.{Sought, sought_first, sought_second, each_map, numbers_add}
use Rattle.codes.specs.Codes.{monic_codes, from_half}
use Rattle.codes.proofs.Halves.{least, code_at, doubled, codes_odd, Half}
use Rattle.triples.specs.Triples.{Triple, none, beginning_with, triples, triple_at}

-- Those whose f has this half or a greater one.
abbrev from_half_lem : ℕ → ℕ → List Triple
from_half_lem n half = each (numbers half (2 ^ n - half)) (λ half. beginning_with n (from_half half))

pub record Seeking (n position half rest : ℕ) : Type 0 where
  pub low : 1 ≤ n
  pub high : n ≤ 6
  pub from : least n ≤ half
  pub to : half ≤ 2 ^ n
  pub sought : Sought (from_half_lem n half) none rest (triple_at n position)

pub begins : (n position : ℕ) → 1 ≤ n → n ≤ 6 → position < length (triples n) → Seeking n position (least n) position
unfolding triples
begins n position low high h = record {
  low = low;
  high = high;
  from = omega arith;
  to = omega (arith, doubled n low);
  sought = record { inside = rw all h; is = rw all };
}
  where
    fs : ℕ → List Triple
    fs half = beginning_with n (from_half half)

    shifted : numbers (least n) (least n) ≡ map (◌+◌ (least n)) (numbers 0 (least n))
    shifted = rw add-zero at (numbers_add (least n) 0 (least n))

    all : from_half_lem n (least n) ≡ each (monic_codes 2 n) (beginning_with n)
    all =
        let count : 2 ^ n - least n ≡ least n = omega (arith, doubled n low) in
        ap (λ (m : ℕ). each (numbers (least n) m) fs) count
        ∙ ap (λ (l : List ℕ). each l fs) shifted
        ∙ each_map fs (◌+◌ (least n)) (numbers 0 (least n))
        ∙ sym (each_map (beginning_with n) (code_at n) (numbers 0 (least n)))
        ∙ sym (ap (λ (l : List ℕ). each l (beginning_with n)) (codes_odd n low))

module _ {n position half rest : ℕ} (s : Seeking n position half rest) where
  below : half < 2 ^ n
  below = go (2 ^ n - half) refl s.sought.inside
    where
      go : (m : ℕ) → 2 ^ n - half ≡ m → rest < length (each (numbers half m) (λ half. beginning_with n (from_half half))) → half < 2 ^ n
      go zero e h = absurd (omega arith)
      go (suc m) e h = omega arith

  pub code : Half n half
  code = record { low = s.low; high = s.high; from = s.from; below = below }

  split : from_half_lem n half ≡ beginning_with n (from_half half) ++ from_half_lem n (suc half)
  split =
      let more : 2 ^ n - half ≡ suc (2 ^ n - suc half) = omega (arith, below) in
      ap (λ (m : ℕ). each (numbers half m) (λ half. beginning_with n (from_half half))) more

  pub found : rest < length (beginning_with n (from_half half))
      → get_or (beginning_with n (from_half half)) rest none ≡ triple_at n position
  found = sought_first (beginning_with n (from_half half)) (from_half_lem n (suc half)) split s.sought

  pub passed : length (beginning_with n (from_half half)) ≤ rest
      → Seeking n position (suc half) (rest - length (beginning_with n (from_half half)))
  passed le = record {
    low = s.low;
    high = s.high;
    from = omega (arith, s.from);
    to = omega (arith, below);
    sought = sought_second (beginning_with n (from_half half)) (from_half_lem n (suc half)) split s.sought le;
  }
