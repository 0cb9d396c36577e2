-- A content has one of the two versions.
use mathlib.Core.Path.{◌≡◌}
use mathlib.Core.Bool.{false}
use lib.Dec.{lit≤}
use Rattle.std.specs.Prelude.{Option, None, Some}
use Rattle.poly.specs.Limits.{outside}
use Rattle.poly.proofs.Ranges.{inside}
use Rattle.trial_writer.specs.declared.content.Third.{Third}
use Rattle.trial_writer.specs.Inner.{version_of}

pub known : (third : Option Third) → outside 1 2 (version_of third) ≡ false
known None = inside 1 2 {n = 1} (lit≤ tt) (lit≤ tt)
known (Some third) = inside 1 2 {n = 2} (lit≤ tt) (lit≤ tt)
