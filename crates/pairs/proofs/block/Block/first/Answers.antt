-- `Block::first` meets its contract: n has n - 1 compositions into 2 parts, one for each gap between n ones, and 2 of the words of 2
-- letters are kept.
use mathlib.Core.Path.{sym, ◌∙◌}
use native.Mathlib.Omega.{arith}
use Rattle.pairs.proofs.Words.{listed_words}
use Rattle.pairs.proofs.Compositions.{listed_compositions}
use Rattle.pairs.proofs.Sizes.{parts_two}
use Rattle.pairs.proofs.block.Block.first.Goals as goal

pub invariant_of-result : goal.invariant_of-result
invariant_of-result c = record {
  le_k = omega arith;
  k_le_n = omega arith;
  n_bound = omega arith;
  compositions_value = parts_two c.args.n (omega arith) ∙ sym (listed_compositions c.args.n 2).long;
  words_value = sym (listed_words 2).long;
}
