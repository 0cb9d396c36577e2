-- `save` meets its contract: the record is checked, then the room, and then the file is put.
use mathlib.Core.Bool.{false}
use mathlib.Core.List.{[], ◌∷◌}
use mathlib.Core.Path.{◌≡◌, sym, ◌∙◌}
use borrow.Author.Tests.{leb-true, leb-false}
use Rattle.std.proofs.lemmas.Result.{err_from_is_err_and}
use Rattle.reply.specs.Reply.{served, unless}
use Rattle.reply.proofs.Order.{sole_served, sole_refused}
use Rattle.walk.specs.declared.Walk.{Walk}
use Rattle.walk.specs.Walks.{bad_record, record_cause}
use Rattle.saved.proofs.Saving.{refused_save, bad_save, no_room, put_save}
use Rattle.saved.proofs.writing.save.Goals as goal

pub returns-in_err-checked : goal.returns-in_err-checked
returns-in_err-checked c =
    let walk = c.args.walk.now in
    let out = c.args.out.now in
    let p = err_from_is_err_and c.from_residual.result c.from_residual.ensures.1 in
    let (bad, is_3) = sole_refused (bad_record walk) 3 [] c.in_err-checked.ensures in
    rw (p.1, p.2) (refused_save walk out (rw is_3 (bad_save walk out bad)))

good : (walk : Walk) → served [] ≡ unless (record_cause walk ∷ []) (served []) → bad_record walk ≡ false
good walk told = (sole_served (bad_record walk) 3 (served []) told).0

pub has_room-requires : goal.has_room-requires
has_room-requires c = good c.args.walk.now c.in_ok-checked.ensures

pub returns-then-not-has_room : goal.returns-then-not-has_room
returns-then-not-has_room c =
    let walk = c.args.walk.now in
    let out = c.args.out.now in
    refused_save walk out
    (no_room walk out (good walk c.in_ok-checked.ensures) (leb-false _ _ (sym c.has_room.ensures ∙ c.if-not-has_room.true)))

pub put_walk-requires : goal.put_walk-requires
put_walk-requires c = leb-true _ _ (sym c.has_room.ensures ∙ c.if-not-has_room.false)

pub returns : goal.returns
returns c =
    let walk = c.args.walk.now in
    put_save walk c.args.out.now (good walk c.in_ok-checked.ensures)
    (leb-true _ _ (sym c.has_room.ensures ∙ c.if-not-has_room.false)) c.put_walk.ensures
