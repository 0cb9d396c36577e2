-- The triples that begin with one code, or with two, from the table's sets: the g are the members of f's set, and the h are the members of
-- f's and g's.
use Prim.Native.Nat.{ℕ, ◌+◌, ◌^◌, ◌<◌}
use native.Mathlib.Nat.{lt_of_le_of_lt}
use mathlib.Core.List.{List, map}
use mathlib.Core.Path.{◌≡◌, sym, ap, ◌∙◌}
use lib.Bits.{bit_and, and_le_l}
use lib.Count.{ones}
use lib.ListN.{length, get_or, length-map}
use Rattle.loops.specs.Loops.{each}
use Rattle.loops.proofs.Loops.{get_d_map, each_map}
use Rattle.codes.specs.Sets.{members}
use Rattle.codes.specs.Codes.{from_half, coprimes_of}
use Rattle.codes.proofs.Sets.{members_count}
use Rattle.codes.proofs.Halves.{least, code_at, Half, half_at, coprime_members, both_members, set_below_lem, set_fits}
use Rattle.triples.specs.Triples.{Triple, none, beginning_with_two, beginning_with}

-- Those whose f has this half and whose g is the code at index k.
abbrev pub behind : ℕ → ℕ → ℕ → List Triple
behind n half k = beginning_with_two n (from_half half) (code_at n k)

-- The set of the codes coprime to both.
abbrev pub common : ℕ → ℕ → ℕ → ℕ
common n half k = bit_and (coprimes_of half) (coprimes_of (least n + k))

module _ {n half : ℕ} (code : Half n half) where
  pub beginning_sets : beginning_with n (from_half half) ≡ each (members (coprimes_of half)) (behind n half)
  unfolding beginning_with
  beginning_sets =
      ap (λ (gs : List ℕ). each gs (beginning_with_two n (from_half half))) (sym (coprime_members code))
      ∙ each_map (beginning_with_two n (from_half half)) (code_at n) (members (coprimes_of half))

  module _ (k : ℕ) (k_lt : k < least n) where
    with_h : ℕ → Triple
    with_h h = record { f = from_half half; g = code_at n k; h = h }

    two_sets : behind n half k ≡ map with_h (map (code_at n) (members (common n half k)))
    unfolding beginning_with_two with_h
    two_sets = ap (map with_h) (sym (both_members code (half_at code k_lt)))

    pub two_count : length (behind n half k) ≡ length (members (common n half k))
    two_count = ap length two_sets ∙ simp length-map

    pub two_ones : length (behind n half k) ≡ ones (common n half k)
    two_ones =
        let fits : coprimes_of half < 2 ^ 32 = set_fits code (set_below_lem code) in
        two_count ∙ members_count _ (lt_of_le_of_lt (and_le_l (coprimes_of half) (coprimes_of (least n + k))) fits)

    pub two_at : (r : ℕ) → r < length (members (common n half k))
        → get_or (behind n half k) r none
        ≡ record { f = from_half half; g = code_at n k; h = code_at n (get_or (members (common n half k)) r 0) }
    unfolding with_h
    two_at r lt =
        ap (λ (l : List Triple). get_or l r none) two_sets
        ∙ get_d_map with_h (map (code_at n) (members (common n half k))) r 0 none (rw length-map lt)
        ∙ ap with_h (get_d_map (code_at n) (members (common n half k)) r 0 0 lt)
