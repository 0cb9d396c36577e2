-- Two numbers, each put behind the one before.
use mathlib.Core.Path.{◌≡◌}
use native.Mathlib.Omega.{arith}
use lib.ListN.{length}
use Rattle.lines.proofs.Lines.{lined_2}
use Rattle.lines.proofs.text.heading.Goals as goal

pub returns : goal.returns
returns c =
    let a = c.args in
    let long : length a.out.now ≡ 64 = omega arith in
    let first = rw c.from.ensures at c.field-at.ensures.placed in
    let second = c.field.ensures in
    lined_2 long a.degree a.count first c.field-at.ensures.upper_bound second.placed second.upper_bound
