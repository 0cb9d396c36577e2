-- `distinct` meets its contract: levels that rise differ.
use mathlib.Core.List.{[]}
use mathlib.Core.Path.{sym, ◌∙◌}
use borrow.Author.Tests.{not-true}
use Rattle.levels.proofs.Ascent.{none_before, rising_differ}
use Rattle.levels.proofs.distinct.Goals as goal

pub returns-then-rising : goal.returns-then-rising
returns-then-rising c =
    let levels = c.args.levels.now in
    c.if-rising.true ∙ rw (rising_differ [] levels none_before (not-true _ (sym c.rising.ensures ∙ c.if-rising.true)))
