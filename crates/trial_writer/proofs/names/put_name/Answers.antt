-- `put_name` meets its contract: all the bytes pasted are the bytes set from there on.
use mathlib.Core.Path.{◌≡◌, refl, ◌∙◌}
use Prim.Native.Nat.{◌+◌, ◌<◌}
use native.Mathlib.Numerals.{add-one}
use native.Mathlib.Omega.{arith}
use lib.ListN.{length, length-set}
use lib.Seq.{paste, paste-suc}
use Rattle.std.proofs.lemmas.List.{take_all}
use Rattle.std.proofs.lemmas.List.Edits.{sets-eq}
use Rattle.trial_writer.proofs.names.put_name.Goals as goal

pub loop-i-preserved : goal.loop-i-preserved
loop-i-preserved c =
    let a = c.args in
    let s = c.loop-i in
    let room : a.at + s.i < length a.out.now = omega arith in
    let more = paste-suc a.out.now a.at a.name.now s.i 0 room c.loop-i-test.true in
    (length-set s.out (a.at + s.i) _ ∙ s.invariant.0, rw (s.invariant.1, add-one s.i) more)

pub returns : goal.returns
returns c =
    let a = c.args in
    let name = a.name.now in
    let done : c.loop-i.i ≡ length name = omega arith in
    let pasted = rw done at c.loop-i.invariant.1 in
    record { next = refl; after = pasted ∙ rw (sets-eq name a.out.now a.at c.requires, paste, take_all (length name) name (omega arith)) }
