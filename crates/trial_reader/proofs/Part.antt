-- The part of a file that holds the name, as it is cut from its start to its end.
use mathlib.Core.Path.{◌≡◌, refl}
use Prim.Native.Nat.{ℕ, ◌+◌, ◌-◌}
use mathlib.Core.List.{List}
use native.Mathlib.Omega.{arith}
use lib.ListN.{take, drop}

pub part_within : (file : List ℕ) (start size : ℕ) → take (start + size - start) (drop start file) ≡ take size (drop start file)
part_within file start size =
    let wide : start + size - start ≡ size = omega arith in
    rw wide refl
