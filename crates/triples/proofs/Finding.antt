-- The search for g among the codes coprime to f. What is kept: the triple that is sought stands at the place `rest` of those whose g is a
-- member of the set `left`.
use Prim.Native.Nat.{ℕ, ◌+◌, ◌-◌, ◌^◌, ◌≤◌, ◌<◌}
use native.Mathlib.Nat.{lt_of_le_of_lt, eq-zero-or-pos}
use native.Mathlib.Omega.{arith}
use mathlib.Core.List.Memᴰ
use mathlib.Core.List.{List, ◌∷◌, ◌++◌}
use mathlib.Core.Logic.{◌⊎◌, inl, inr}
use mathlib.Core.Path.{◌≡◌, refl, sym, ap, ◌∙◌}
use lib.Bits.{bit_and, and_le_l}
use lib.Count.{ones, count_trailing_zeros}
use lib.ListN.{length, get_or}
use Rattle.loops.specs.Loops.{each}
use Rattle.loops.proofs.Loops.{Sought, sought_first, sought_second}
use Rattle.loops.proofs.Members.{entry_in}
use Rattle.codes.specs.Sets.{members}
use Rattle.codes.specs.Codes.{from_half, coprimes_of}
use Rattle.codes.proofs.Sets.{members_first, members_none, members_lt}
use Rattle.codes.proofs.Halves.{least, code_at, Half, half_at, set_below_lem, set_fits}
use Rattle.triples.specs.Triples.{Triple, none, beginning_with}
use Rattle.triples.proofs.Beginnings.{behind, common, beginning_sets, two_count, two_ones, two_at}

pub record Finding (n half place left rest : ℕ) : Type 0 where
  pub code : Half n half
  pub bits : left < 2 ^ least n
  pub sought : Sought (each (members left) (behind n half)) none rest (get_or (beginning_with n (from_half half)) place none)

pub found_first : (n half place : ℕ) → Half n half → place < length (beginning_with n (from_half half))
    → Finding n half place (coprimes_of half) place
found_first n half place code h =
    record {
      code = code;
      bits = set_below_lem code;
      sought = record { inside = rw (beginning_sets code) at h; is = rw (beginning_sets code) };
    }

module _ {n half place left rest : ℕ} (s : Finding n half place left rest) where
  pub some : 0 < left
  some = go (eq-zero-or-pos left)
    where
      go : (left ≡ 0) ⊎ (0 < left) → 0 < left
      go (inl e) = let nothing : rest < 0 = rw (e, members_none) at s.sought.inside in absurd (omega arith)
      go (inr pos) = pos

  -- the index of the least g that is left
  k : ℕ
  k = count_trailing_zeros 32 left

  first : members left ≡ k ∷ members (bit_and left (left - 1))
  unfolding k
  first = members_first left (set_fits s.code s.bits) some

  index_lt : k < least n
  index_lt = members_lt (least n) left s.bits (rw first (Memᴰ.head refl))

  pub second : Half n (least n + count_trailing_zeros 32 left)
  unfolding k
  second = half_at s.code index_lt

  here : List Triple
  here = behind n half k

  later : List Triple
  later = each (members (bit_and left (left - 1))) (behind n half)

  split : each (members left) (behind n half) ≡ here ++ later
  unfolding here later
  split = ap (λ (gs : List ℕ). each gs (behind n half)) first

  -- the codes coprime to f and to that g
  module _ (both : ℕ) (is_both : both ≡ common n half (count_trailing_zeros 32 left)) where
    here_long : length here ≡ ones both
    unfolding here k
    here_long = two_ones s.code k index_lt ∙ ap ones (sym is_both)

    pub in_both : rest < ones both → rest < length (members both)
    unfolding here k
    in_both lt = rw (is_both, ← two_count s.code k index_lt) (rw (← here_long) at lt)

    pub third : rest < ones both → Half n (least n + get_or (members both) rest 0)
    third lt =
        let bits : both < 2 ^ least n = rw is_both (lt_of_le_of_lt (and_le_l (coprimes_of half) _) (set_below_lem s.code)) in
        half_at s.code (members_lt (least n) both bits (entry_in (members both) rest 0 (in_both lt)))

    pub found : rest < ones both
        → record { f = from_half half; g = code_at n (count_trailing_zeros 32 left); h = code_at n (get_or (members both) rest 0) }
        ≡ get_or (beginning_with n (from_half half)) place none
    unfolding here k
    found lt =
        rw is_both (sym (two_at s.code k index_lt rest (rw is_both at (in_both lt))))
        ∙ sought_first here later split s.sought (rw (← here_long) at lt)

    pub passed : ones both ≤ rest → Finding n half place (bit_and left (left - 1)) (rest - ones both)
    unfolding later
    passed le = record {
      code = s.code;
      bits = lt_of_le_of_lt (and_le_l left (left - 1)) s.bits;
      sought = rw (← here_long) (sought_second here later split s.sought (rw here_long le));
    }
