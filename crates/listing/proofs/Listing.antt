-- The list is its blocks one after the other, as code goes through them: what holds before each block.
use Prim.Native.Nat.{ℕ, suc, ◌+◌, ◌-◌, ◌/◌, ◌≤◌, ◌<◌}
use native.Mathlib.Numerals.{add-one}
use native.Mathlib.Omega.{arith}
use mathlib.Core.Path.{◌≡◌, refl, sym, ap, ap₂, ◌∙◌}
use mathlib.Core.List.{List, [], ◌++◌, map}
use lib.ListN.{length, length-map}
use Rattle.loops.specs.Loops.{numbers, each}
use Rattle.loops.proofs.Loops.{map_each}
use Rattle.euclid.specs.Chain.{Pair}
use Rattle.pairs.specs.Sequences.{block, sequences}
use Rattle.pairs.specs.Pairs.{build, pairs}
use Rattle.listing.specs.Filling.{Written}
use Rattle.pairs.specs.declared.block.Block.{Block}
use Rattle.pairs.proofs.Stepping.{First, Next}
use Rattle.std.specs.Prelude.{Option, None, Some}
use Rattle.listing.proofs.Written.{joined, skipped, full, same_length}

-- The pairs of k and more quotients.
abbrev pub blocks : ℕ → ℕ → List Pair
blocks n k = each (numbers k (suc n - k)) (λ k. map build (block n k))

pairs_blocks : (n : ℕ) → 1 ≤ n → pairs n ≡ blocks n 2
unfolding pairs sequences
pairs_blocks n h = let e : suc n - 2 ≡ n - 1 = omega arith in rw (e, map_each)

next_block : (n k : ℕ) → k ≤ n → blocks n k ≡ map build (block n k) ++ blocks n (k + 1)
next_block n k h = let e : suc n - k ≡ suc (suc n - (k + 1)) = omega arith in rw (e, add-one)

no_block : (n k : ℕ) → n < k → blocks n k ≡ []
no_block n k h = let e : suc n - k ≡ 0 = omega arith in rw e

-- The pairs of the blocks from the next one on, if there is one.
abbrev onward : Option Block → List Pair
onward None = []
onward (Some block) = blocks block.n block.k

-- Before the next block: what will be written of the blocks from it on completes what is to be written of the list.
pub record Going (n position : ℕ) (old : List ℕ) (out : List ℕ) (next : Option Block) (skip done : ℕ) : Type 0 where
  pub long : length out ≡ length old
  pub completes : (new : List ℕ) (all : ℕ) → Written (onward next) skip out done new all → Written (pairs n) position old 0 new all

-- how many blocks are to come
abbrev pub left : Option Block → ℕ
left None = 0
left (Some block) = suc (block.n - block.k)

from_first : (n : ℕ) (next : Option Block) → First n next → 2 ≤ n → n ≤ 31 → onward next ≡ pairs n
from_first n None h low high = absurd (h (low, high))
from_first n (Some block) (degree, quotients) low high = ap₂ blocks degree quotients ∙ sym (pairs_blocks n (omega arith))

from_next : (self : Block) (next : Option Block) → Next self next → onward next ≡ blocks self.n (self.k + 1)
from_next self None h = sym (no_block self.n (self.k + 1) (omega (arith, h)))
from_next self (Some block) (degree, quotients) = ap₂ blocks degree quotients

pub fewer : (self : Block) (next : Option Block) → Next self next → left next < left (Some self)
fewer self None h = omega arith
fewer self (Some block) (degree, quotients) = omega (arith, degree, quotients, block.k_le_n)

pub begins : {n position : ℕ} {old : List ℕ} (next : Option Block) → First n next → 2 ≤ n → n ≤ 31
    → Going n position old old next position 0
begins {n} next first low high = record { long = refl; completes = λ new all w. rw (from_first n next first low high) at w }

module _ {n position skip done : ℕ} {old out : List ℕ} where
  pub stops_full : {next : Option Block} → Going n position old out next skip done → length out / 2 ≤ done
      → Written (pairs n) position old 0 out done
  stops_full going h = going.completes out done (full h)

  pub stops_done : {next : Option Block} → Going n position old out next skip done → next ≡ None → Written (pairs n) position old 0 out done
  stops_done going e = going.completes out done (rw e (skipped (omega arith)))

  pub turn : (self : Block) {now next : Option Block} {rest all : ℕ} {new : List ℕ} → Going n position old out now skip done
      → now ≡ Some self → Next self next → rest ≡ skip - length (block self.n self.k)
      → Written (map build (block self.n self.k)) skip out done new all → Going n position old new next rest all
  turn self {now} {next} going is step er v = record {
    long = same_length v ∙ going.long;
    completes = λ new' all' later.
        let rest : _ = rw (from_next self next step, er ∙ sym (ap (λ x. skip - x) (length-map (block self.n self.k) build))) at later in
        going.completes new' all' (rw (is, next_block self.n self.k self.k_le_n) (joined v rest));
  }
