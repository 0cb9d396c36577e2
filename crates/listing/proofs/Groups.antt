-- A block is its groups one after the other, all of one length; a group's pairs are what its heads make of (1, 0).
use Prim.Native.Nat.{ℕ, zero, suc, ◌+◌, ◌-◌, ◌*◌, ◌/◌, ◌%◌, ◌^◌, ◌≤◌, ◌<◌}
use native.Mathlib.Nat.{
  zero-add,
  add-zero,
  add-suc,
  suc-add,
  suc-mul,
  zero-mul,
  zero-sub,
  sub-zero,
  suc-sub-suc,
  mul_assoc,
  pow-suc,
  mod-lt,
  div-add-mod',
  div-lt_iff_lt-mul,
  le_refl,
}
use native.Mathlib.Numerals.{add-one}
use native.Mathlib.Omega.{arith}
use mathlib.Core.Path.{◌≡◌, refl, sym, ap, ap₂, ◌∙◌}
use mathlib.Core.Bool.{Bool, true, false}
use mathlib.Core.List.{List, [], ◌∷◌, ◌++◌, map, map-map, map-append}
use lib.ListN.{length, get_or, drop, replicate, length-map, length-replicate}
use lib.Seq.{drop-append-add, drop-drop, drop-nil, ext_get_or}
use lib.Pow.{pow_pos}
use Rattle.loops.specs.Loops.{numbers, each}
use Rattle.loops.proofs.Loops.{Listed, listed_map, listed_numbers, listed_each, map_each}
use Rattle.poly.specs.Code.{degree}
use Rattle.euclid.specs.Chain.{Pair}
use Rattle.pairs.specs.Counts.{sum}
use Rattle.pairs.specs.Words.{State, s10, s11, s01, step, words, words_from}
use Rattle.pairs.specs.Sequences.{bit, bits, compositions, block}
use Rattle.pairs.specs.Pairs.{build}
use Rattle.listing.specs.Filling.{Written, lettered, onward, state_of, Fits, Ready, group, HeadsOf}
use Rattle.pairs.proofs.Valid.{EachPositive}
use Rattle.pairs.proofs.Words.{count, word_at, listed_words, words_from_suc}
use Rattle.pairs.proofs.Compositions.{parts, composition_at, CompositionAt, composition_at_known, listed_compositions}
use Rattle.pairs.proofs.Quotients.{quotients_parts, bits_total, code_has}
use Rattle.pairs.proofs.Blocks.{block_size, block_at, listed_block, composition_index}

-- The pairs of group i.
unfoldable pub made : ℕ → ℕ → ℕ → List Pair
made n k i = map (λ w. build (group n k i w)) (words k)

-- Those of the groups from group g on, of G.
abbrev pub later : ℕ → ℕ → ℕ → ℕ → List Pair
later n k G g = each (numbers g (G - g)) (made n k)

pub length_made : (n k i : ℕ) → length (made n k i) ≡ length (words k)
unfolding made
length_made n k i = simp length-map

-- ---- a block as groups
module _ (n k : ℕ) where
  abbrev groups : ℕ
  groups = length (compositions n k) * 2 ^ (n - k)

  abbrev in_groups : List (List ℕ)
  in_groups = each (numbers 0 groups) (λ i. map (group n k i) (words k))

  listed_groups : Listed in_groups (groups * count s10 k) (λ j. group n k (0 + j / count s10 k) (word_at s10 k (j % count s10 k))) []
  listed_groups = listed_each (λ i. map (group n k i) (words k)) (count s10 k) (λ i v. group n k i (word_at s10 k v)) []
      (λ i. listed_map (group n k i) [] (listed_words k)) (listed_numbers 0 groups)

  size_is : block_size n k ≡ groups * count s10 k
  unfolding block_size
  size_is = rw ((listed_compositions n k).long, mul_assoc (parts n k) (2 ^ (n - k)) (count s10 k))

  same_place : (j : ℕ) → j < block_size n k → group n k (0 + j / count s10 k) (word_at s10 k (j % count s10 k)) ≡ block_at n k j
  unfolding group block_at
  same_place j h = rw (zero-add, (listed_compositions n k).stands (j / count s10 k / 2 ^ (n - k)) (composition_index n k j h))

  block_groups : block n k ≡ in_groups
  block_groups = ext_get_or [] (block n k) in_groups ((listed_block n k).long ∙ size_is ∙ sym listed_groups.long)
      (λ j h.
      let l : j < block_size n k = rw (listed_block n k).long at h in
      (listed_block n k).stands j l ∙ sym (listed_groups.stands j (rw size_is at l) ∙ same_place j l))

  pub block_made : map build (block n k) ≡ later n k groups 0
  unfolding made
  block_made = rw (block_groups, map_each, sub-zero) (simp map-map)

-- ---- groups in a row
drop_groups : (f : ℕ → List Pair) (W : ℕ) → ((i : ℕ) → length (f i) ≡ W) → (a G g : ℕ)
    → drop (g * W) (each (numbers a G) f) ≡ each (numbers (a + g) (G - g)) f
drop_groups f W long a G zero = rw (zero-mul, add-zero, sub-zero)
drop_groups f W long a zero (suc g) = rw zero-sub (drop-nil (suc g * W))
drop_groups f W long a (suc G) (suc g) =
    let e : suc g * W ≡ length (f a) + g * W = rw (suc-mul, long a) (omega arith) in
    rw (e, drop-append-add (f a) (each (numbers (suc a) G) f) (g * W), suc-sub-suc, add-suc, ← suc-add) (drop_groups f W long (suc a) G g)

moved : {s t : List Pair} {a b done all : ℕ} {old new : List ℕ} → drop a s ≡ drop b t → Written s a old done new all
    → Written t b old done new all
moved e w = record { end = rw (← e) w.end; content = rw (← e) w.content }

-- From the group that a skip leads to.
pub from_group : (n k G W skip : ℕ) {done all : ℕ} {old new : List ℕ} → W ≡ length (words k)
    → Written (later n k G (skip / W)) (skip % W) old done new all → Written (later n k G 0) skip old done new all
from_group n k G W skip is w = moved same w
  where
    g : ℕ
    g = skip / W

    same : drop (skip % W) (later n k G g) ≡ drop skip (later n k G 0)
    same =
        ap (drop (skip % W)) (sym (rw (sub-zero, drop_groups (made n k) W (λ i. length_made n k i ∙ sym is) 0 G g, zero-add)))
        ∙ drop-drop (skip % W) (g * W) (later n k G 0) ∙ ap (λ v. drop v (later n k G 0)) (div-add-mod' skip W)

-- One group more.
pub next_group : (n k G g : ℕ) → g < G → later n k G g ≡ made n k g ++ later n k G (g + 1)
next_group n k G g h =
    let e : G - g ≡ suc (G - (g + 1)) = omega arith in
    rw (e, add-one)

pub no_group : (n k G g : ℕ) → G ≤ g → later n k G g ≡ []
no_group n k G g h = let e : G - g ≡ 0 = omega arith in rw e

-- ---- the pairs of a group from its heads
no_letter : {B : Type 0} (f g : List Bool → B) (s : State) → f [] ≡ g [] → map f (words_from s 0) ≡ map g (words_from s 0)
unfolding words_from
no_letter f g s10 same = ap (λ x. x ∷ []) same
no_letter f g s11 same = refl
no_letter f g s01 same = refl

pub words_map : {B : Type 0} (f g : List Bool → B) (s : State) (k : ℕ) → ((w : List Bool) → length w ≡ k → f w ≡ g w)
    → map f (words_from s k) ≡ map g (words_from s k)
words_map f g s zero same = no_letter f g s (same [] refl)
words_map f g s (suc k) same =
    rw (words_from_suc s k, map-append, map-append, map-map, map-map, map-map, map-map)
    (ap₂ ◌++◌ (words_map (λ w. f (false ∷ w)) (λ w. g (false ∷ w)) (step s false) k (λ w e. same (false ∷ w) (ap suc e)))
    (words_map (λ w. f (true ∷ w)) (λ w. g (true ∷ w)) (step s true) k (λ w e. same (true ∷ w) (ap suc e))))

module _ {n k i : ℕ} {heads : List ℕ} (h : HeadsOf n k i heads) where
  pub onward_made : onward heads k 1 0 ≡ made n k i
  unfolding onward made state_of build
  onward_made = words_map _ _ s10 k (λ w e. ap build (h.give w e))

  -- The heads of a group fit: their quotients' degrees have the sum n.
  fits_from : (m a : ℕ) (w : List Bool) → length w ≡ m → EachPositive (map (degree 2) (lettered heads m w))
      → sum (map (degree 2) (lettered heads m w)) + a ≤ 31 → Fits heads m a
  fits_from zero a [] e p le = omega arith
  fits_from zero a (l ∷ w) e p le = absurd (omega arith)
  fits_from (suc m) a [] e p le = absurd (omega arith)
  fits_from (suc m) a (l ∷ w) e p le =
      let q : ℕ = get_or heads m 0 * 2 + bit l in
      let d : ℕ = degree 2 q in
      (d, omega (arith, (code_has q p.0).high, pow-suc 2 d), fits_from m (a + d) w (omega arith) p.1 (omega arith))

  module _ (fits : i < length (compositions n k) * 2 ^ (n - k)) where
    abbrev index : ℕ
    index = i / 2 ^ (n - k)

    inside : index < parts n k
    inside = rw (← (listed_compositions n k).long) ((div-lt_iff_lt-mul (pow_pos (n - k))).1 fits)

    abbrev ds : List ℕ
    ds = composition_at n k index

    -- with the word of zeros, or any other
    degrees : map (degree 2) (lettered heads k (replicate k false)) ≡ ds
    unfolding group
    degrees = go (composition_at_known n k index inside)
      where
        go : CompositionAt n k index ds → map (degree 2) (lettered heads k (replicate k false)) ≡ ds
        go c =
            let room : bits ds ≡ n - k = omega (arith, bits_total ds c.positive, c.long, c.total) in
            rw (h.give (replicate k false) (length-replicate k false), (listed_compositions n k).stands index inside)
            (quotients_parts ds (i % 2 ^ (n - k)) (replicate k false) c.positive (rw room (mod-lt i (pow_pos (n - k))))
            (length-replicate k false ∙ sym c.long)).degrees

    pub first_ready : 2 ≤ k → k ≤ n → n ≤ 31 → Ready heads k 1 0
    first_ready two le few = go (composition_at_known n k index inside)
      where
        go : CompositionAt n k index ds → Ready heads k 1 0
        go c = record {
          some = omega arith;
          few = omega arith;
          odd = le_refl 1;
          size = 0;
          small_r = le_refl 2;
          small_s = omega arith;
          room =
              fits_from k 0 (replicate k false) (length-replicate k false) (rw degrees c.positive)
              (rw degrees (omega (arith, c.total)));
        }
