-- `write_content` meets its contract: the content is checked, then the room, and then the head and the body are put.
use mathlib.Core.Path.{◌≡◌, refl}
use mathlib.Core.List.{List, ◌++◌}
use Prim.Native.Nat.{ℕ, ◌+◌, ◌≤◌}
use native.Mathlib.Omega.{arith}
use lib.ListN.{length, length-append}
use Rattle.std.proofs.lemmas.Result.{err_from_is_err_and}
use Rattle.leb128.specs.Writing.{Puts}
use Rattle.leb128.proofs.Putting.{Putting, none_put, bytes_put, last_put, room_left}
use Rattle.trial.specs.Trial.{Trial, encode_head, encode_body, encode}
use Rattle.trial_writer.specs.Inner.{trial_of}
use Rattle.trial_writer.proofs.Writing.{refused_write, content_refused, no_room, put_write, short}
use Rattle.trial_writer.proofs.writer.write_content.Goals as goal

parts : (t : Trial) → encode t ≡ encode_head t.head ++ encode_body t.lists t.name
unfolding encode
parts t = refl

head_fits : (t : Trial) {room : ℕ} → length (encode t) ≤ room → length (encode_head t.head) ≤ room
head_fits t h = omega (arith, rw (parts t, length-append) at h)

-- The head is put, and the body is left.
head_put : (t : Trial) {out out₁ : List ℕ} {at : ℕ} → Puts out 0 (encode_head t.head) at out₁
    → Putting out out₁ 0 at (encode t) (encode_body t.lists t.name)
head_put t {out} p = bytes_put (encode_head t.head) (none_put out 0 (parts t)) p

pub returns-in_err-check_content : goal.returns-in_err-check_content
returns-in_err-check_content c =
    let t = trial_of c.args.content.now in
    let p = err_from_is_err_and c.from_residual.result c.from_residual.ensures.1 in
    rw (p.1, p.2) (refused_write t c.args.out.now (content_refused t c.args.out.now c.in_err-check_content.ensures))

pub encoded_size-requires : goal.encoded_size-requires
encoded_size-requires c = short c.args.content.now c.in_ok-check_content.ensures

pub returns-then-out-encoded_size : goal.returns-then-out-encoded_size
returns-then-out-encoded_size c =
    let t = trial_of c.args.content.now in
    let out = c.args.out.now in
    refused_write t out (no_room t out c.in_ok-check_content.ensures (rw c.encoded_size.ensures at c.if-out-encoded_size.true))

pub put_head-at-requires : goal.put_head-at-requires
put_head-at-requires c = head_fits (trial_of c.args.content.now) (rw c.encoded_size.ensures at c.if-out-encoded_size.false)

pub put_body-requires : goal.put_body-requires
put_body-requires c =
    let t = trial_of c.args.content.now in
    let room = rw c.encoded_size.ensures at c.if-out-encoded_size.false in
    let fits : 0 + length (encode t) ≤ length c.args.out.now = omega (arith, room) in
    record {
      room = room_left (head_put t c.put_head-at.ensures) fits;
      short = (short c.args.content.now c.in_ok-check_content.ensures).short_name;
    }

pub returns : goal.returns
returns c =
    let t = trial_of c.args.content.now in
    put_write t c.args.out.now c.in_ok-check_content.ensures (rw c.encoded_size.ensures at c.if-out-encoded_size.false)
    (last_put (head_put t c.put_head-at.ensures) c.put_body.ensures)
