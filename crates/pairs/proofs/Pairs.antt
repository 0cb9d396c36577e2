-- The list of pairs: a pair for each sequence, in the same order.
use Prim.Native.Nat.{ℕ, ◌-◌, ◌*◌, ◌/◌, ◌^◌, ◌<◌}
use mathlib.Core.Path.{◌≡◌, ap, ◌∙◌}
use mathlib.Core.List.{map}
use lib.ListN.{length, get_or, length-map}
use Rattle.loops.specs.Loops.{numbers}
use Rattle.loops.proofs.Loops.{before, listed_map}
use Rattle.pairs.specs.Counts.{sum}
use Rattle.pairs.specs.Claims.{with_quotients}
use Rattle.pairs.specs.Sequences.{sequences}
use Rattle.euclid.specs.Chain.{Pair}
use Rattle.pairs.specs.Pairs.{build, pairs}
use Rattle.pairs.proofs.Sequences.{sequence_at, SequenceAt, sequence_at_known, listed_sequences, length_sequences}
use Rattle.pairs.proofs.Blocks.{block_size}
use Rattle.pairs.proofs.Length.{length_tripled, length_closed, length_summed}

pub length_blocks : (n : ℕ) → length (pairs n) ≡ before (block_size n) 2 (n - 1)
unfolding pairs
length_blocks n = length-map (sequences n) build ∙ length_sequences n

pub length_pairs : (n : ℕ) → length (pairs n) ≡ 2 * (4 ^ (n - 1) - 1) / 3
unfolding pairs
length_pairs n = length-map (sequences n) build ∙ length_closed n

pub length_exact : (n : ℕ) → 3 * length (pairs n) ≡ 2 * (4 ^ (n - 1) - 1)
unfolding pairs
length_exact n = ap (λ v. 3 * v) (length-map (sequences n) build) ∙ length_tripled n

pub length_counted : (n : ℕ) → length (pairs n) ≡ sum (map (with_quotients n) (numbers 2 (n - 1)))
unfolding pairs
length_counted n = length-map (sequences n) build ∙ length_summed n

pub pair_at_is : (n j : ℕ) (none : Pair) → j < length (pairs n) → get_or (pairs n) j none ≡ build (sequence_at n j)
unfolding pairs
pair_at_is n j none h = (listed_map build none (listed_sequences n)).stands j (rw length_blocks at h)

-- The sequence that the pair at a position is built from is valid, and has that position.
pub sequence_known : (n j : ℕ) → j < length (pairs n) → SequenceAt n j (sequence_at n j)
sequence_known n j h = sequence_at_known n j (rw (length_blocks, ← length_sequences) at h)
