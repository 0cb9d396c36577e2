-- `put_rows` meets its contract: the four sets have the symbols that were met in the two rows, and the tables have them by column and in
-- pairs.
use mathlib.Core.Bool.{true}
use mathlib.Core.Path.{◌≡◌}
use Prim.Native.Nat.{◌*◌, ◌/◌}
use Rattle.squares.specs.Sheets.{shown}
use Rattle.sheets.specs.Inner.{met_below, pairs_put, by_turns}
use Rattle.sheets.proofs.Met.put_rows.Given as goal

abbrev pub invariant-loop-col : goal.invariant-loop-col
invariant-loop-col l =
    (l.first ≡ met_below l.col (λ i. true) (shown 2 l.order 0 l.sheet l.row))
    × (l.second ≡ met_below l.col (λ i. true) (shown 2 l.order 1 l.sheet l.row))
    × (l.first_next ≡ met_below l.col (λ i. true) (shown 2 l.order 0 l.sheet l.next))
    × (l.second_next ≡ met_below l.col (λ i. true) (shown 2 l.order 1 l.sheet l.next))
    × (l.self.firsts ≡ pairs_put l.initial.self.firsts (2 * l.col) (λ j. j / 2) (by_turns l.order l.sheet 0 l.row l.next))
    × (l.self.seconds ≡ pairs_put l.initial.self.seconds (2 * l.col) (λ j. j / 2) (by_turns l.order l.sheet 1 l.row l.next))
    × (l.self.pairs ≡ pairs_put l.initial.self.pairs (2 * l.col) (by_turns l.order l.sheet 0 l.row l.next)
    (by_turns l.order l.sheet 1 l.row l.next))
