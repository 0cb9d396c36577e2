-- `singles` meets its contract: the sets of the symbols passed stand there.
use mathlib.Core.Path.{◌≡◌}
use lib.ListN.{length}
use Rattle.sheets.specs.Inner.{Singles}
use Rattle.sheets.proofs.Symbols.singles.Given as goal

abbrev pub invariant-loop-symbol : goal.invariant-loop-symbol
invariant-loop-symbol l = (length l.one ≡ 64) × Singles l.symbol l.one
