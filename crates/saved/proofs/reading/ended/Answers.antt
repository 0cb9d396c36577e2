-- `ended` meets its contract: bytes that are left, the test of the record, or the walk.
use mathlib.Core.List.{[]}
use mathlib.Core.Path.{sym, ◌∙◌}
use Prim.Native.Nat.{◌<◌}
use native.Mathlib.Omega.{arith}
use lib.ListN.{length, drop, length-drop, drop_of_length-le}
use Rattle.std.proofs.lemmas.Result.{err_from_is_err_and}
use Rattle.reply.specs.Reply.{served}
use Rattle.reply.proofs.Order.{sole_served, sole_refused}
use Rattle.reply.specs.declared.Refusal.TheVariants.{TrailingBytes}
use Rattle.walk.specs.declared.Walk.{Walk}
use Rattle.walk.specs.Walks.{bad_record}
use Rattle.walk.proofs.Righting.{right_tested, right_done}
use Rattle.saved.specs.Saved.{parse_last}
use Rattle.saved.proofs.Ending.{refused_load, read_load, trailing, narrowed, bad_end, good_end}
use Rattle.saved.proofs.reading.ended.Goals as goal

pub returns-then-at-file : goal.returns-then-at-file
returns-then-at-file c =
    let a = c.args in
    let bytes = drop a.at a.file.now in
    let more : 0 < length bytes = rw length-drop (omega (arith, c.if-at-file.true)) in
    refused_load (parse_last _) bytes TrailingBytes (trailing _ bytes more)

pub returns-in_err-set_right : goal.returns-in_err-set_right
returns-in_err-set_right c =
    let a = c.args in
    let made : Walk = record { degree = c.unwrap_or.result; position = a.position; marks = a.marks; counts = a.counts; f = 0; g = 0 } in
    let p = err_from_is_err_and c.from_residual.result c.from_residual.ensures.1 in
    let (bad, is_3) = sole_refused (bad_record made) 3 [] (c.in_err-set_right.ensures.reply ∙ sym (right_tested made)) in
    let e = bad_end _ a.degree a.position a.marks a.counts (narrowed _ c.try_from.ensures c.unwrap_or.ensures) bad in
    rw (p.1, p.2)
    (refused_load (parse_last _) (drop a.at a.file.now) _ (rw (drop_of_length-le a.file.now c.if-at-file.false, is_3) e))

pub returns : goal.returns
returns c =
    let a = c.args in
    let made : Walk = record { degree = c.unwrap_or.result; position = a.position; marks = a.marks; counts = a.counts; f = 0; g = 0 } in
    let told = c.in_ok-set_right.ensures.reply in
    let good = (sole_served (bad_record made) 3 (served []) (told ∙ sym (right_tested made))).0 in
    let e = good_end _ a.degree a.position a.marks a.counts (narrowed _ c.try_from.ensures c.unwrap_or.ensures) good in
    rw (drop_of_length-le a.file.now c.if-at-file.false, c.in_ok-set_right.ensures.after ∙ sym (right_done made told))
    (read_load (parse_last _) [] e)
