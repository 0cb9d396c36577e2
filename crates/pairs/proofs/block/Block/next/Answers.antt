-- `Block::next` meets its contract: the next number of compositions is a share of a product, and the words of k letters and of one letter
-- more are 2^k together.
use mathlib.Core.Path.{◌≡◌, sym, ap, ◌∙◌}
use Prim.Native.Nat.{◌+◌, ◌-◌, ◌*◌, ◌/◌, ◌^◌, ◌<◌}
use native.Mathlib.Numerals.{add-one}
use native.Mathlib.Omega.{arith}
use lib.ListN.{length}
use Rattle.pairs.specs.declared.block.Block.{Block}
use Rattle.pairs.specs.Words.{words}
use Rattle.pairs.proofs.Shares.{next_fits, next_words}
use Rattle.pairs.proofs.Compositions.{parts, listed_compositions}
use Rattle.pairs.proofs.Sizes.{next_share}
use Rattle.pairs.proofs.block.Block.next.Goals as goal

shared : (b : Block)
    → (b.compositions * (b.n - b.k) < 2 ^ 32) × (b.compositions * (b.n - b.k) * (2 ^ 32 / b.k + 1) / 2 ^ 32 ≡ parts b.n (b.k + 1))
shared b =
    next_share b.n b.k (omega (arith, b.le_k)) b.k_le_n (omega (arith, b.n_bound))
    (b.compositions_value ∙ (listed_compositions b.n b.k).long)

pub overflow_mul-self : goal.overflow_mul-self
overflow_mul-self c = record { fits = (shared c.args.self).0 }

pub overflow_sub-result : goal.overflow_sub-result
overflow_sub-result c =
    let b = c.args.self in next_fits b.k b.words (omega (arith, b.k_le_n, b.n_bound)) b.words_value

pub invariant_of-result : goal.invariant_of-result
invariant_of-result c =
    let b = c.args.self in
    record {
      le_k = omega (arith, b.le_k);
      k_le_n = omega (arith, b.k_le_n);
      n_bound = b.n_bound;
      compositions_value =
          c.share.ensures ∙ (shared b).1 ∙ sym (listed_compositions b.n (b.k + 1)).long;
      words_value =
          next_words b.k b.words (omega (arith, b.k_le_n, b.n_bound)) b.words_value
          ∙ ap (λ v. length (words v)) (sym (add-one b.k));
    }
