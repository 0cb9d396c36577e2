-- `start` meets its contract: the degree's own test is the one cause.
use mathlib.Core.Path.{sym, ◌∙◌}
use Rattle.poly.proofs.Ranges.{within}
use Rattle.walk.proofs.start.Goals as goal

pub begun-requires : goal.begun-requires
begun-requires c = (within 1 31 (sym c.outside.ensures ∙ c.if-outside.false)).1
