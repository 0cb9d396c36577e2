-- `coprimes` meets its contract: each case is an entry of the table that was computed, as `told` of Table.antt says, and outside the table
-- the set is 0 by definition.
use Prim.Native.Nat.{ℕ, ◌<◌}
use mathlib.Core.Logic.{◌⊎◌, inl, inr}
use mathlib.Core.Path.{◌≡◌}
use Rattle.loops.proofs.Entries.{NoneOf, none_of}
use Rattle.poly.proofs.Ranges.{outside_below, outside_above}
use Rattle.codes.specs.Codes.{coprimes_of}
use Rattle.codes.proofs.coprimes.Goals as goal

outside_rows : (x : ℕ) → NoneOf 63 x → 0 ≡ coprimes_of x
unfolding coprimes_of
outside_rows x none = go (none_of 63 x none)
  where
    go : (x < 1) ⊎ (63 < x) → 0 ≡ coprimes_of x
    go (inl low) = rw (outside_below 1 63 low)
    go (inr high) = rw (outside_above 1 63 high)

pub returns-in_default : goal.returns-in_default
returns-in_default c = outside_rows c.args.half c.in_default.in_default-own.rest
