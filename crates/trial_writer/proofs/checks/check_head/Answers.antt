-- `check_head` meets its contract: the version is one of the two, and the check of two or of three codes has the causes.
use mathlib.Core.Path.{sym, ◌∙◌}
use borrow.Author.Rules.{rules}
use Rattle.poly.specs.Causes.{code_causes}
use Rattle.trial_writer.proofs.Versions.{known}
use Rattle.trial_writer.proofs.checks.check_head.Goals as goal

pub returns-in-Some : goal.returns-in-Some
unfolding code_causes
returns-in-Some c = rw (known c.args.content.now.third, c.in-Some.is) (search rules)

pub returns-then-outside_sheets : goal.returns-then-outside_sheets
returns-then-outside_sheets c =
    rw (known c.args.content.now.third, sym c.outside_sheets.ensures ∙ c.if-outside_sheets.true)

pub returns : goal.returns
unfolding code_causes
returns c =
    rw (known c.args.content.now.third, c.in_default.is, sym c.outside_sheets.ensures ∙ c.if-outside_sheets.false) (search rules)
