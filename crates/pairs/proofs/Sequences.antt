-- The whole list of sequences: the number of quotients is found by subtracting the blocks before, the rest is the block's. Position and
-- sequence give each other back, so each valid sequence stands in the list exactly once, and nothing else does.
use Prim.Native.Nat.{ℕ, ◌+◌, ◌-◌, ◌≤◌, ◌<◌}
use native.Mathlib.Nat.{add-sub_of_le, add-sub_cancel_left}
use native.Mathlib.Omega.{arith}
use mathlib.Core.Path.{◌≡◌, sym, ap, ◌∙◌}
use mathlib.Core.List.{List, []}
use lib.ListN.{length, get_or}
use Rattle.loops.proofs.Loops.{Listed, listed_blocks, before, before_lt, block_le, seek, seek_before, Place, place}
use Rattle.pairs.specs.Sequences.{block, sequences}
use Rattle.pairs.proofs.Valid.{Valid}
use Rattle.pairs.proofs.Blocks.{
  block_size,
  block_at,
  block_rank,
  listed_block,
  BlockAt,
  block_at_known,
  block_rank_lt,
  block_at_rank,
  length_le,
}

-- The sequence at position j.
unfoldable pub sequence_at : ℕ → ℕ → List ℕ
sequence_at n j = seek (block_size n) (block_at n) [] 2 (n - 1) j

-- The position of a sequence.
unfoldable pub sequence_rank : ℕ → List ℕ → ℕ
sequence_rank n qs = before (block_size n) 2 (length qs - 2) + block_rank n qs

pub listed_sequences : (n : ℕ) → Listed (sequences n) (before (block_size n) 2 (n - 1)) (sequence_at n) []
unfolding sequences sequence_at
listed_sequences n = listed_blocks (block_size n) (block_at n) [] (block n) (listed_block n) 2 (n - 1)

pub length_sequences : (n : ℕ) → length (sequences n) ≡ before (block_size n) 2 (n - 1)
length_sequences n = (listed_sequences n).long

pub block_size_le : (n k : ℕ) → 2 ≤ k → k ≤ n → block_size n k ≤ length (sequences n)
block_size_le n k h l = rw length_sequences (rw (add-sub_of_le h) at (block_le (block_size n) 2 (n - 1) (k - 2) (omega arith)))

pub sequence_at_is : (n j : ℕ) → j < length (sequences n) → get_or (sequences n) j [] ≡ sequence_at n j
sequence_at_is n j h = (listed_sequences n).stands j (rw length_sequences at h)

-- What the sequence at position j is known by.
pub record SequenceAt (n j : ℕ) (qs : List ℕ) : Type 0 where
  pub valid : Valid n qs
  pub rank : sequence_rank n qs ≡ j

pub sequence_at_known : (n j : ℕ) → j < length (sequences n) → SequenceAt n j (sequence_at n j)
unfolding sequence_at sequence_rank
sequence_at_known n j h = go (place (block_size n) 2 (n - 1) j (rw length_sequences at h))
  where
    found : (p : Place (block_size n) 2 (n - 1) j) → sequence_at n j ≡ block_at n (2 + p.i) p.r
    found p =
        ap (sequence_at n) (sym p.is) ∙ seek_before (block_size n) (block_at n) [] 2 (n - 1) p.i p.r p.block_in p.in_block

    known : (p : Place (block_size n) 2 (n - 1) j) (qs : List ℕ) → BlockAt n (2 + p.i) p.r qs → SequenceAt n j qs
    known p qs b = record { valid = b.valid; rank = rw (b.long, b.rank, add-sub_cancel_left) p.is }

    go : Place (block_size n) 2 (n - 1) j → SequenceAt n j (sequence_at n j)
    go p = rw (found p) (known p (block_at n (2 + p.i) p.r) (block_at_known n (2 + p.i) p.r (omega arith) p.in_block))

module _ (n : ℕ) (qs : List ℕ) (v : Valid n qs) where
  block_in : length qs - 2 < n - 1
  block_in = omega (arith, length_le n qs v, v.several)

  in_block : block_rank n qs < block_size n (2 + (length qs - 2))
  in_block = rw (add-sub_of_le v.several) (block_rank_lt n qs v)

  pub sequence_rank_lt : sequence_rank n qs < length (sequences n)
  unfolding sequence_rank
  sequence_rank_lt = rw length_sequences (before_lt (block_size n) 2 (n - 1) (length qs - 2) (block_rank n qs) block_in in_block)

  pub sequence_at_rank : sequence_at n (sequence_rank n qs) ≡ qs
  unfolding sequence_at sequence_rank
  sequence_at_rank =
      seek_before (block_size n) (block_at n) [] 2 (n - 1) (length qs - 2) (block_rank n qs) block_in in_block
      ∙ ap (λ k. block_at n k (block_rank n qs)) (add-sub_of_le v.several) ∙ block_at_rank n qs v

-- Every sequence of the list is valid.
pub sequences_valid : (n j : ℕ) → j < length (sequences n) → Valid n (get_or (sequences n) j [])
sequences_valid n j h = rw (sequence_at_is n j h) (sequence_at_known n j h).valid

-- A sequence stands in the list at one position, and at no other.
pub record Once (n : ℕ) (qs : List ℕ) : Type 0 where
  pub position : ℕ
  pub below : position < length (sequences n)
  pub stands : get_or (sequences n) position [] ≡ qs
  pub only : (j : ℕ) → j < length (sequences n) → get_or (sequences n) j [] ≡ qs → j ≡ position

unfoldable pub valid_once : (n : ℕ) (qs : List ℕ) → Valid n qs → Once n qs
valid_once n qs v = record {
  position = sequence_rank n qs;
  below = sequence_rank_lt n qs v;
  stands = sequence_at_is n (sequence_rank n qs) (sequence_rank_lt n qs v) ∙ sequence_at_rank n qs v;
  only = λ j h e. sym (sequence_at_known n j h).rank ∙ ap (sequence_rank n) (sym (sequence_at_is n j h) ∙ e);
}
