-- `word_count` meets its contract: each entry of the printed table is the number of words.
use mathlib.Core.Path.{sym, ◌∙◌}
use borrow.Author.Rules.{rules}
use borrow.Author.Tests.{le-ltb}
use Rattle.pairs.specs.Words.{tabled}
use Rattle.pairs.proofs.Words.{tabled_is}
use Rattle.pairs.proofs.WordCounts.{table, right}
use Rattle.pairs.proofs.table.word_count.Goals as goal

pub returns-then-k-ge32 : goal.returns-then-k-ge32
unfolding tabled
returns-then-k-ge32 c = rw (le-ltb c.args.k 32 c.if-k-ge32.true)

pub returns : goal.returns
unfolding table
returns c = c.from.ensures ∙ right c.args.k (search rules) ∙ sym (tabled_is c.args.k (search rules))
