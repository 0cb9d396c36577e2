-- `scaled` meets its contract: the mask is 0 or all ones.
use mathlib.Core.Path.{◌≡◌, sym, ◌∙◌}
use Prim.Native.Nat.{ℕ, zero, suc, ◌*◌, ◌^◌, ◌<◌}
use native.Mathlib.Nat.{mod-eq_of_lt, zero-mul, one-mul}
use native.Mathlib.Omega.{arith}
use lib.Bits.{bit_and, and_zero_r, and_mask}
use Rattle.poly.proofs.arithmetic.scaled.Goals as goal

masked : (bit code : ℕ) → bit < 2 → code < 2 ^ 32 → bit_and code (bit * 4294967295) ≡ bit * code
masked zero code h fits = rw (zero-mul 4294967295, zero-mul code) (and_zero_r code)
masked (suc zero) code h fits = and_mask code 32 ∙ mod-eq_of_lt fits ∙ sym (one-mul code)
masked (suc (suc n)) code h fits = absurd (omega arith)

pub returns : goal.returns
returns c = masked _ c.args.code (omega arith) c.ranges.code.fits
