-- Three numbers, each put behind the one before.
use Rattle.lines.proofs.Lines.{puts_3}
use Rattle.lines.proofs.text.put_pair.Goals as goal

pub returns-clause-placed : goal.returns-clause-placed
returns-clause-placed c =
    let a = c.args in
    let first = c.field-next.ensures in
    let second = rw c.from.ensures at c.field-last.ensures.placed in
    let third = rw c.from-2.ensures at c.field.ensures.placed in
    puts_3 a.position a.pair.f a.pair.g c.requires first.placed first.upper_bound second c.field-last.ensures.upper_bound third
    c.field.ensures.upper_bound
