-- `graeco_latin` meets its contract: rows are put two at a time, and then the sets say the rest.
use Prim.Native.Nat.{◌*◌}
use Rattle.sheets.proofs.Together.{RowsPut}
use Rattle.sheets.proofs.graeco_latin.Given as goal

abbrev pub invariant-loop-two : goal.invariant-loop-two
invariant-loop-two l = RowsPut l.order l.sheet l.met.firsts l.met.seconds l.met.pairs (2 * l.two)
