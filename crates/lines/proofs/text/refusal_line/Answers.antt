-- The text, and the number put behind it.
use mathlib.Core.Path.{◌≡◌}
use native.Mathlib.Omega.{arith}
use lib.ListN.{length}
use Rattle.reply.specs.Numbers.{number_of}
use Rattle.lines.proofs.Lines.{lined_refusal}
use Rattle.lines.proofs.text.refusal_line.Goals as goal

pub returns : goal.returns
returns c =
    let a = c.args in
    let long : length a.out.now ≡ 64 = omega arith in
    let number = rw (c.from.ensures, c.number.ensures) at c.field.ensures.placed in
    lined_refusal long (number_of a.refusal) c.copy-at.ensures number c.field.ensures.upper_bound
