-- `Words::count` meets its contract: from (1,1) as many words lead to (1,0) as from (1,0), and from (0,1) either letter leads there.
use mathlib.Core.Path.{◌≡◌, ◌∙◌}
use Prim.Native.Nat.{◌-◌}
use native.Mathlib.Omega.{arith}
use lib.ListN.{length}
use Rattle.pairs.specs.Words.{words}
use Rattle.pairs.proofs.Words.{tabled_is}
use Rattle.pairs.proofs.Bounds.{words_lt}
use Rattle.listing.proofs.Onward.{even_words, odd_words}
use Rattle.listing.proofs.Words.count.Goals as goal

less_one : (c : goal.After-word_count) → c.word_count.result ≡ length (words (c.args.self.letters - 1))
less_one c = c.word_count.ensures ∙ tabled_is (c.args.self.letters - 1) (omega arith)

pub overflow_mul-result : goal.overflow_mul-result
overflow_mul-result c = omega (arith, words_lt (c.args.self.letters - 1) (omega arith), less_one c)

pub returns-then-self-eq0 : goal.returns-then-self-eq0
returns-then-self-eq0 c =
    λ s. rw (less_one c) (even_words c.args.self.letters c.args.self.r s c.args.self.some c.if-self-eq0.true)

pub returns : goal.returns
returns c =
    λ s.
    c.word_count-2.ensures ∙ tabled_is c.args.self.letters (omega arith)
    ∙ odd_words c.args.self.letters c.args.self.r s c.args.self.some c.if-self-eq0.false
