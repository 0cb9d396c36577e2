-- `seek` meets its contract: a block whose size is not above the place is passed, and the place falls by that size.
use mathlib.Core.List.{[]}
use mathlib.Core.Path.{◌≡◌, sym, ap, ◌∙◌}
use Prim.Native.Nat.{ℕ, zero, suc, ◌+◌, ◌-◌, ◌≤◌, ◌<◌}
use native.Mathlib.Nat.{suc-sub-suc}
use native.Mathlib.Numerals.{add-one}
use native.Mathlib.Omega.{arith}
use borrow.Author.Tests.{lt-ltb, le-ltb}
use lib.ListN.{length, get_or}
use Rattle.loops.proofs.Loops as loops
use Rattle.pairs.specs.Sequences.{block}
use Rattle.pairs.specs.Pairs.{start, build, pairs}
use Rattle.pairs.proofs.Blocks.{block_size, block_at, listed_block}
use Rattle.pairs.proofs.Sequences.{sequence_at}
use Rattle.pairs.proofs.Pairs.{length_blocks, pair_at_is}
use Rattle.pairs.proofs.Stepping.{some_first, first_is, some_next, next_is}
use Rattle.pairs.proofs.pair.seek.Invariants.{Seeking, at}
use Rattle.pairs.proofs.pair.seek.Goals as goal

module _ (n position : ℕ) (fits : position < length (pairs n)) where
  inside : position < loops.before (block_size n) 2 (n - 1)
  inside = rw length_blocks at fits

  two : 2 ≤ n
  two = go n inside
    where
      go : (n : ℕ) → position < loops.before (block_size n) 2 (n - 1) → 2 ≤ n
      go zero h = absurd (omega arith)
      go (suc zero) h = absurd (omega arith)
      go (suc (suc n)) h = omega arith

  begins : {m k : ℕ} → m ≡ n → k ≡ 2 → Seeking n position m k position
  unfolding sequence_at
  begins e e' =
      let all : suc n - 2 ≡ n - 1 = omega arith in
      rw e' (record { degree = e; inside = rw all inside; is = rw all })

some : (size : ℕ → ℕ) (a m j : ℕ) → j < loops.before size a m → 0 < m
some size a zero j h = absurd (omega arith)
some size a (suc m) j h = omega arith

-- in the block of k quotients, its size s
module _ {n position m k place : ℕ} (h : Seeking n position m k place) (high : k ≤ m) (s : ℕ) (is : s ≡ length (block m k)) where
  size_is : s ≡ block_size n k
  size_is = is ∙ (listed_block m k).long ∙ ap (λ v. block_size v k) h.degree

  blocks : suc n - k ≡ suc (n - k)
  blocks = omega (arith, high, h.degree)

  module _ (le : s ≤ place) where
    rest : place - s < loops.before (block_size n) (suc k) (n - k)
    rest =
        let all : place < block_size n k + loops.before (block_size n) (suc k) (n - k) = rw blocks at h.inside in
        omega (arith, size_is)

    another : k < m
    another = omega (arith, some (block_size n) (suc k) (n - k) (place - s) rest, h.degree)

    passes : {m' k' : ℕ} → m' ≡ m → k' ≡ k + 1 → Seeking n position m' k' (place - s)
    passes e e' =
        rw (e', add-one k)
        (record {
          degree = e ∙ h.degree;
          inside = rw suc-sub-suc rest;
          is =
              rw (suc-sub-suc n k, size_is) (sym (rw (le-ltb place (block_size n k) (omega (arith, size_is)))))
              ∙ rw blocks at h.is;
        })

  ends : position < length (pairs n) → place < s → build (get_or (block m k) place []) ≡ get_or (pairs n) position start
  ends fits lt =
      let l : place < block_size n k = rw size_is at lt in
      let here : at n k (suc n - k) place ≡ block_at n k place = rw (blocks, lt-ltb place (block_size n k) l) in
      ap (λ v. build (get_or (block v k) place [])) h.degree
      ∙ ap build ((listed_block n k).stands place l ∙ sym here ∙ h.is) ∙ sym (pair_at_is n position start fits)

pub unwrap-block-requires : goal.unwrap-block-requires
unwrap-block-requires c =
    some_first c.args.n c.first.result c.first.ensures (two c.args.n c.args.position c.requires.position_in_bounds) c.requires.n_bound

pub loop-place-init : goal.loop-place-init
loop-place-init c =
    let (degree, quotients) = first_is c.args.n c.unwrap-block.ensures c.first.ensures in
    begins c.args.n c.args.position c.requires.position_in_bounds degree quotients

pub unwrap-block-requires-in-loop-place : goal.unwrap-block-requires-in-loop-place
unwrap-block-requires-in-loop-place c =
    let l = c.loop-place in
    some_next l.block c.next.result c.next.ensures (another l.invariant l.block.k_le_n _ c.size.ensures c.loop-place-test.true)

pub loop-place-preserved : goal.loop-place-preserved
loop-place-preserved c =
    let l = c.loop-place in
    let (degree, quotients) = next_is l.block c.unwrap-block-in-loop-place.ensures c.next.ensures in
    rw (c.size-place.ensures ∙ sym c.size.ensures)
    (passes l.invariant l.block.k_le_n _ c.size.ensures c.loop-place-test.true degree quotients)

pub returns : goal.returns
returns c =
    let l = c.loop-place in
    c.pair_in.ensures ∙ ends l.invariant l.block.k_le_n _ c.size.ensures c.requires.position_in_bounds c.loop-place-test.false
