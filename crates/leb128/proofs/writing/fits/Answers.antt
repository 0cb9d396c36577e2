-- `fits` meets its contract: no number takes more than ten bytes.
use mathlib.Core.Path.{sym, ◌∙◌}
use Prim.Native.Nat.{◌-◌, ◌≤◌}
use native.Mathlib.Omega.{arith}
use borrow.Author.Tests.{le-leb}
use lib.ListN.{length}
use Rattle.leb128.specs.Number.{encode_number}
use Rattle.leb128.proofs.Number.{encode_most}
use Rattle.leb128.proofs.writing.fits.Goals as goal

pub returns-then-left-ge10 : goal.returns-then-left-ge10
returns-then-left-ge10 c =
    let a = c.args in
    let few : length (encode_number a.value) ≤ 10 = encode_most 9 a.value (omega arith) in
    le-leb 10 (a.room - a.at) c.if-left-ge10.true ∙ sym (le-leb _ a.room (omega (arith, c.if-left-ge10.true)))
