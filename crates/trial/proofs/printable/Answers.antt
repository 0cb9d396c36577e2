use mathlib.Core.Bool.{Bool, true, false, not, ◌&&◌, ◌||◌}
use mathlib.Core.Path.{◌≡◌, refl, ◌∙◌}
use Prim.Native.Nat.{suc, ◌≤◌}
use native.Mathlib.Numerals.{add-one}
use borrow.Author.Rules.{rules}
use lib.ListN.{get_or, drop}
use lib.Seq.{drop-cons}
use Rattle.std.specs.Prelude.{IsTrue, ◌↔◌}
use Rattle.poly.specs.Limits.{outside}
use Rattle.trial.specs.Trial.{any_unprintable}
use Rattle.trial.proofs.Flags.{in_range}
use Rattle.trial.proofs.printable.Goals as goal

-- the first of those left goes over to those passed
over : (good out left : Bool) → good && not (out || left) ≡ (good && not out) && not left
over false out left = refl
over true true left = refl
over true false left = refl

pub loop-byte-preserved : goal.loop-byte-preserved
loop-byte-preserved c =
    let bytes = c.args.bytes.now in
    let i = c.loop-byte.byte-index in
    let byte = get_or bytes i 0 in
    let test : IsTrue c.contains-good.result ↔ ((32 ≤ byte) × (byte ≤ 126)) = search rules in
    rw (in_range 32 126 byte c.contains-good.result test, add-one)
    (c.loop-byte.invariant
    ∙ rw (drop-cons bytes i 0 c.loop-byte-test.true) (over c.loop-byte.good (outside 32 126 byte) (any_unprintable (drop (suc i) bytes))))
