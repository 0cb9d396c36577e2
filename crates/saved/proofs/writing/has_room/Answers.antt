-- `has_room` meets its contract: no file of a good record has more than 155 bytes, and each is as long as its parts together.
use mathlib.Core.Path.{◌≡◌, sym, ap}
use Prim.Native.Nat.{ℕ, ◌+◌}
use native.Mathlib.Omega.{arith}
use borrow.Author.Rules.{rules}
use borrow.Author.Tests.{le-leb}
use lib.Dec.{leb}
use lib.ListN.{length}
use Rattle.saved.specs.Saved.{encode_walk}
use Rattle.saved.proofs.Saving.{size, few_bytes}
use Rattle.saved.proofs.writing.has_room.Goals as goal

pub returns-then-room-ge-MOST_BYTES : goal.returns-then-room-ge-MOST_BYTES
returns-then-room-ge-MOST_BYTES c =
    let walk = c.args.walk.now in
    let few = few_bytes walk (search rules) (search rules) c.requires in
    sym (le-leb (length (encode_walk walk)) c.args.room (omega arith))

pub returns : goal.returns
returns c =
    let walk = c.args.walk.now in
    let is : 1 + c.width.result + c.width-2.result + c.eight_width.result + c.eight_width-2.result ≡ length (encode_walk walk) = omega (
      arith,
      size walk,
      rw c.from.ensures at c.width.ensures.0,
      c.width-2.ensures.0,
      c.eight_width.ensures.0,
      c.eight_width-2.ensures.0,
    ) in
    ap (λ (n : ℕ). leb n c.args.room) is
