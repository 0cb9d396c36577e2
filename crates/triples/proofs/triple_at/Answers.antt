-- `triple_at` meets its contract: the degree is judged first, then the position.
use mathlib.Core.Path.{sym, ◌∙◌}
use borrow.Author.Tests.{lt-ltb, le-ltb}
use Rattle.poly.proofs.Ranges.{within}
use Rattle.triples.specs.Replies.{triple_at_reply}
use Rattle.triples.proofs.triple_at.Goals as goal

pub returns-then-outside_sheets : goal.returns-then-outside_sheets
unfolding triple_at_reply
returns-then-outside_sheets c = rw (sym c.outside_sheets.ensures ∙ c.if-outside_sheets.true)

pub invariant_of-list : goal.invariant_of-list
invariant_of-list c =
    let (low, high) = within 2 6 (sym c.outside_sheets.ensures ∙ c.if-outside_sheets.false) in
    record { low = low; high = high }

pub returns-then-from-position : goal.returns-then-from-position
unfolding triple_at_reply
returns-then-from-position c =
    rw (
      sym c.outside_sheets.ensures ∙ c.if-outside_sheets.false,
      le-ltb _ _ (rw (c.from.ensures, c.length.ensures) at c.if-from-position.true),
    )

pub seek-requires : goal.seek-requires
seek-requires c = rw (c.from.ensures, c.length.ensures) at c.if-from-position.false

pub returns : goal.returns
unfolding triple_at_reply
returns c =
    rw (
      sym c.outside_sheets.ensures ∙ c.if-outside_sheets.false,
      lt-ltb _ _ (rw (c.from.ensures, c.length.ensures) at c.if-from-position.false),
      c.seek.ensures,
    )
