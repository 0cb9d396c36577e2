-- `reversed` meets its contract: each mask and the whole network are tried at the 64 places.
use mathlib.Core.Path.{refl}
use Rattle.squares.proofs.Exchanges.{lower, after, network_reverses}
use Rattle.squares.proofs.reversed.Goals as goal

pub returns : goal.returns
returns c =
    network_reverses
    (after 32 refl
    (after 16 refl
    (after 8 refl
    (after 4 refl (after 2 refl c.swapped-x.ensures c.swapped-x-2.ensures) c.swapped-x-3.ensures)
    c.swapped-x-4.ensures)
    c.swapped-x-5.ensures)
    c.swapped.ensures)

pub swapped-x-requires : goal.swapped-x-requires
swapped-x-requires c = lower refl

pub swapped-x-requires-2 : goal.swapped-x-requires-2
swapped-x-requires-2 c = lower refl

pub swapped-x-requires-3 : goal.swapped-x-requires-3
swapped-x-requires-3 c = lower refl

pub swapped-x-requires-4 : goal.swapped-x-requires-4
swapped-x-requires-4 c = lower refl

pub swapped-x-requires-5 : goal.swapped-x-requires-5
swapped-x-requires-5 c = lower refl

pub swapped-requires : goal.swapped-requires
swapped-requires c = lower refl
