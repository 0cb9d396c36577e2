-- `fill_list` meets its contract: the list is its blocks one after the other, while there is a next one.
use mathlib.Core.Path.{ap, ◌∙◌}
use Prim.Native.Nat.{◌-◌}
use Rattle.listing.proofs.Listing.{begins, stops_done, turn}
use Rattle.listing.proofs.fill_list.Goals as goal

pub loop-next-init : goal.loop-next-init
loop-next-init c = begins c.first-next.result c.first-next.ensures c.requires.0 c.requires.1

pub loop-next-preserved : goal.loop-next-preserved
loop-next-preserved c =
    let l = c.loop-next in
    turn c.in-Some.block l.invariant c.in-Some.is c.next-next.ensures
    (c.saturating_sub-skip.ensures ∙ ap (λ v. l.skip - v) c.size.ensures) c.fill_block-done.ensures

pub returns : goal.returns
returns c = stops_done c.loop-next.invariant c.in_default.is
