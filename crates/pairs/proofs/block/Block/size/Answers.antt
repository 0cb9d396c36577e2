-- `Block::size` meets its contract: the shift is the product with the number of intermediate bits, and loses nothing up to degree 31.
use mathlib.Core.Path.{◌≡◌}
use Prim.Native.Nat.{ℕ, ◌-◌, ◌*◌, ◌^◌, ◌<◌}
use native.Mathlib.Nat.{mul_assoc, mul_comm, mod-eq_of_lt, le-mul_of_pos_right}
use native.Mathlib.Omega.{arith}
use lib.ListN.{length}
use lib.Pow.{pow_pos}
use Rattle.pairs.specs.declared.block.Block.{Block}
use Rattle.pairs.specs.Words.{s10, words}
use Rattle.pairs.specs.Sequences.{compositions, block}
use Rattle.pairs.proofs.Words.{count, listed_words}
use Rattle.pairs.proofs.Compositions.{listed_compositions}
use Rattle.pairs.proofs.Blocks.{block_size, listed_block}
use Rattle.pairs.proofs.Bounds.{block_size_lt}
use Rattle.pairs.proofs.block.Block.size.Goals as goal

size_is : (n k c w : ℕ) → c ≡ length (compositions n k) → w ≡ length (words k) → c * w * 2 ^ (n - k) ≡ length (block n k)
unfolding block_size
size_is n k c w ec ew =
    rw (ec, ew, (listed_compositions n k).long, (listed_words k).long, (listed_block n k).long, mul_assoc, mul_comm (count s10 k))

-- for the block
here : (b : Block) → (b.compositions * b.words * 2 ^ (b.n - b.k) ≡ length (block b.n b.k)) × (length (block b.n b.k) < 2 ^ 61)
here b = (
  size_is b.n b.k b.compositions b.words b.compositions_value b.words_value,
  rw (listed_block b.n b.k).long (block_size_lt b.n b.k b.le_k b.k_le_n b.n_bound),
)

pub overflow_mul-result : goal.overflow_mul-result
overflow_mul-result c =
    let b = c.args.self in
    let h = here c.args.self in
    record { fits = omega (arith, le-mul_of_pos_right (b.compositions * b.words) (pow_pos (b.n - b.k))) }

pub returns : goal.returns
returns c = let h = here c.args.self in rw h.0 (mod-eq_of_lt (omega arith))
