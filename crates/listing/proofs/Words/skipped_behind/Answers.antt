-- `Words::skipped_behind` meets its contract: nothing skipped leaves nothing to skip.
use mathlib.Core.Path.{ap, ◌∙◌}
use Prim.Native.Nat.{◌-◌}
use Rattle.listing.proofs.Words.skipped_behind.Goals as goal

pub returns : goal.returns
returns c = λ s. c.saturating_sub.ensures ∙ ap (λ v. c.args.skip - v) (c.count.ensures s)
