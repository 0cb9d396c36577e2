-- `put_walk` meets its contract: each part is put behind the one before.
use mathlib.Core.List.{List, ◌++◌}
use Prim.Native.Nat.{ℕ, ◌+◌, ◌≤◌}
use native.Mathlib.Omega.{arith}
use lib.ListN.{length}
use Rattle.leb128.specs.Writing.{PutsFitting}
use Rattle.leb128.specs.Number.{encode_number, encode_numbers}
use Rattle.leb128.proofs.Putting.{Putting, none_put, part_put, bytes_put, last_put, room_first, room_left}
use Rattle.walk.specs.declared.Walk.{Walk}
use Rattle.saved.specs.Saved.{encode_walk}
use Rattle.saved.proofs.Saving.{parts}
use Rattle.saved.proofs.writing.put_walk.Goals as goal

room : (walk : Walk) (out : List ℕ) → length (encode_walk walk) ≤ length out → 0 + length (encode_walk walk) ≤ length out
room walk out enough = omega arith

-- What is put, part by part.
put₃ : (walk : Walk) {out out₁ out₂ out₃ : List ℕ} {at₁ at₂ at₃ : ℕ} → length (encode_walk walk) ≤ length out
    → PutsFitting out 0 (encode_number 2) at₁ out₁ → PutsFitting out₁ at₁ (encode_number walk.degree) at₂ out₂
    → PutsFitting out₂ at₂ (encode_number walk.position) at₃ out₃
    → Putting out out₃ 0 at₃ (encode_walk walk) (encode_numbers walk.marks ++ encode_numbers walk.counts)
put₃ walk {out} enough kind degree position =
    let space = room walk out enough in
    part_put (encode_number walk.position)
    (part_put (encode_number walk.degree) (part_put (encode_number 2) (none_put out 0 (parts walk)) space kind) space degree)
    space position

pub put_eight-at-requires : goal.put_eight-at-requires
put_eight-at-requires c =
    let w = c.args.walk.now in
    room_first (encode_numbers w.marks) (encode_numbers w.counts)
    (put₃ w c.requires c.put_number-at.ensures (rw c.from.ensures at c.put_number-at-2.ensures) c.put_number-at-3.ensures)
    (room w c.args.out.now c.requires)

pub put_eight-requires : goal.put_eight-requires
put_eight-requires c =
    let w = c.args.walk.now in
    room_left
    (bytes_put (encode_numbers w.marks)
    (put₃ w c.requires c.put_number-at.ensures (rw c.from.ensures at c.put_number-at-2.ensures) c.put_number-at-3.ensures)
    c.put_eight-at.ensures)
    (room w c.args.out.now c.requires)

pub returns : goal.returns
returns c =
    let w = c.args.walk.now in
    last_put
    (bytes_put (encode_numbers w.marks)
    (put₃ w c.requires c.put_number-at.ensures (rw c.from.ensures at c.put_number-at-2.ensures) c.put_number-at-3.ensures)
    c.put_eight-at.ensures)
    c.put_eight.ensures
