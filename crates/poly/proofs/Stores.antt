-- Numbers stored in a slice in two steps are stored in one.
use mathlib.Core.Path.{◌≡◌}
use Prim.Native.Nat.{ℕ, suc, ◌+◌}
use mathlib.Core.List.{List, [], ◌∷◌, ◌++◌}
use native.Mathlib.Nat.{add-zero}
use native.Mathlib.Omega.{arith}
use lib.ListN.{length, set}
use lib.Seq.{sets}

pub sets_append : (out : List ℕ) (at : ℕ) (first more : List ℕ)
    → sets out at (first ++ more) ≡ sets (sets out at first) (at + length first) more
sets_append out at [] more = rw add-zero
sets_append out at (x ∷ first) more =
    let further : suc at + length first ≡ at + suc (length first) = omega arith in
    rw further at (sets_append (set out at x) (suc at) first more)
