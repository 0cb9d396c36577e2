-- The blocks before one: their sizes as code adds them up, and the bound that keeps the sum within a register for degrees up to 31.
use Prim.Native.Nat.{ℕ, zero, suc, ◌+◌, ◌-◌, ◌^◌, ◌≤◌, ◌<◌}
use native.Mathlib.Nat.{add-zero, add-suc, suc-add, pow-le-pow_right}
use native.Mathlib.Omega.{arith}
use mathlib.Core.Path.{◌≡◌, ap, ◌∙◌}
use mathlib.Core.List.{[]}
use lib.ListN.{length}
use Rattle.loops.specs.Loops.{numbers, each}
use Rattle.loops.proofs.Loops.{before, before_next, listed_blocks}
use Rattle.pairs.specs.Sequences.{block, sequences}
use Rattle.pairs.proofs.Blocks.{block_size, block_at, listed_block}
use Rattle.pairs.proofs.Sequences.{length_sequences}
use Rattle.pairs.proofs.Length.{length_closed}

pub length_before : (n i : ℕ) → length (each (numbers 2 i) (block n)) ≡ before (block_size n) 2 i
length_before n i = (listed_blocks (block_size n) (block_at n) [] (block n) (listed_block n) 2 i).long

before_within : (size : ℕ → ℕ) (a m i : ℕ) → i < m → before size a i + size (a + i) ≤ before size a m
before_within size a zero i h = absurd (omega arith)
before_within size a (suc m) zero h = rw add-zero (omega arith)
before_within size a (suc m) (suc i) h =
    rw (add-suc, ← suc-add) (let ih : _ = before_within size (suc a) m i (omega arith) in omega arith)

-- One block more, where the blocks go from 2 quotients on.
pub blocks_next : (n k : ℕ) → 2 ≤ k → before (block_size n) 2 (k + 1 - 2) ≡ before (block_size n) 2 (k - 2) + block_size n k
blocks_next n k h =
    let up : k + 1 - 2 ≡ suc (k - 2) = omega arith in
    let here : 2 + (k - 2) ≡ k = omega arith in
    rw up (before_next (block_size n) 2 (k - 2) ∙ ap (λ v. before (block_size n) 2 (k - 2) + block_size n v) here)

pub blocks_within : (n k : ℕ) → 2 ≤ k → k ≤ n → before (block_size n) 2 (k - 2) + block_size n k ≤ length (sequences n)
blocks_within n k h l =
    let here : 2 + (k - 2) ≡ k = omega arith in
    rw length_sequences
    (rw here at (before_within (block_size n) 2 (n - 1) (k - 2) (omega arith)))

pub sequences_lt : (n : ℕ) → n < 32 → length (sequences n) < 2 ^ 60
sequences_lt n h =
    let small : 4 ^ (n - 1) ≤ 4 ^ 30 = pow-le-pow_right {n = 4} (omega arith) {i = n - 1} {j = 30} (omega arith) in
    omega (arith, length_closed n)
