-- `put_groups` meets its contract: in a turn the lowest group is put, and behind the loop the last one.
use mathlib.Core.List.{[], ◌∷◌}
use Prim.Native.Nat.{◌+◌, ◌/◌, ◌%◌}
use native.Mathlib.Omega.{arith}
use Rattle.leb128.specs.Number.{encode_number}
use Rattle.leb128.proofs.Number.{encode_small, encode_step}
use Rattle.leb128.proofs.Putting.{Putting, byte_put, all_put, room_left}
use Rattle.leb128.proofs.writing.put_groups.Goals as goal

-- In a turn the lowest group comes next; after the loop the last.
one_more : (c : goal.In-loop-left) →
    let a = c.args in
    let s = c.loop-left in
    Putting a.out.now s.out a.at s.next (encode_number a.value) ((s.left % 128 + 128) ∷ encode_number (s.left / 128))
one_more c = rw (encode_step c.loop-left.left c.loop-left-test.true) at c.loop-left.invariant

last_one : (c : goal.After-loop-left) →
    let a = c.args in
    let s = c.loop-left in
    Putting a.out.now s.out a.at s.next (encode_number a.value) (s.left ∷ [])
last_one c = rw (encode_small c.loop-left.left c.loop-left-test.false) at c.loop-left.invariant

pub bounds-out-next : goal.bounds-out-next
bounds-out-next c = omega (arith, room_left (one_more c) c.requires)

pub loop-left-preserved : goal.loop-left-preserved
loop-left-preserved c = byte_put (one_more c)

pub bounds-out-next-2 : goal.bounds-out-next-2
bounds-out-next-2 c = omega (arith, room_left (last_one c) c.requires)

pub returns : goal.returns
returns c = all_put (byte_put (last_one c))
