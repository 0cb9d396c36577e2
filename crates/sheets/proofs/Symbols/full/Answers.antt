-- `full` meets its contract: of 64 ones as many as the order are left.
use mathlib.Core.Path.{◌≡◌, ap, ◌∙◌}
use Prim.Native.Nat.{ℕ, ◌+◌, ◌-◌, ◌*◌, ◌/◌, ◌^◌}
use native.Mathlib.Omega.{arith}
use lib.Pow.{ones_split, ones_lt, high}
use Rattle.sheets.proofs.Symbols.full.Goals as goal

pub returns : goal.returns
returns c =
    let n = c.args.self.order in
    let k : ℕ = 64 - n in
    let whole : 64 ≡ n + k = omega arith in
    let ones : 18446744073709551615 ≡ (2 ^ n - 1) * 2 ^ k + (2 ^ k - 1) = ap (λ (j : ℕ). 2 ^ j - 1) whole ∙ ones_split n k in
    ap (λ (x : ℕ). x / 2 ^ k) ones ∙ high (2 ^ n - 1) k (ones_lt k)
