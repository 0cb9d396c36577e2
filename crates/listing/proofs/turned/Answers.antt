-- `turned` meets its contract: the shift loses nothing, and the sum is an exclusive or.
use mathlib.Core.Path.{◌≡◌, sym}
use Prim.Native.Nat.{ℕ, ◌*◌, ◌%◌, ◌^◌, ◌<◌}
use native.Mathlib.Nat.{mod-eq_of_lt}
use native.Mathlib.Omega.{arith}
use lib.Bits.{bit_xor}
use Rattle.poly.specs.Code.{add}
use Rattle.poly.proofs.Binary.{add_xor}
use Rattle.listing.proofs.turned.Goals as goal

doubled : (x y s : ℕ) → x ≡ y → y < 2 ^ 31 → bit_xor (x * 2 % 2 ^ 32) s ≡ add 2 (y * 2) s
doubled x y s e h =
    let whole : y * 2 % 2 ^ 32 ≡ y * 2 = mod-eq_of_lt (omega arith) in
    rw (e, whole) (sym (add_xor (y * 2) s))

pub returns : goal.returns
returns c = doubled c.product.result _ c.args.s c.product.ensures c.requires
