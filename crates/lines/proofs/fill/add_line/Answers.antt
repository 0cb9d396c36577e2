-- `add_line` meets its contract: the line is put where it fits, and else nothing is done.
use mathlib.Core.List.{[], ◌∷◌}
use native.Mathlib.Omega.{arith}
use Rattle.lines.specs.Text.{line}
use Rattle.lines.proofs.Putting.{lined_front}
use Rattle.lines.proofs.Fitting.{line_fits, line_full}
use Rattle.lines.proofs.fill.add_line.Goals as goal

pub returns-then-out-used : goal.returns-then-out-used
returns-then-out-used c =
    let a = c.args in
    line_full (line (a.position ∷ a.pair.f ∷ a.pair.g ∷ [])) (omega (arith, c.pair_line-size.ensures.size, c.if-out-used.true))

pub returns : goal.returns
returns c =
    let l = c.pair_line-size.ensures in
    let bytes = lined_front l in
    let fits = c.if-out-used.false in
    line_fits (omega (arith, l.size, fits)) (rw bytes at c.copy.ensures)
