-- Division without remainder as a multiplication by a reciprocal: with 2^32 = t d + m and x = q d, x (t + 1) is q whole 2^32 and q (d - m)
-- more, which is x at most.
use mathlib.Core.Path.{◌≡◌, sym, ap, ◌∙◌}
use Prim.Native.Nat.{ℕ, ◌+◌, ◌-◌, ◌*◌, ◌/◌, ◌%◌, ◌^◌, ◌≤◌, ◌<◌}
use native.Mathlib.Nat
use native.Mathlib.Omega.{arith}
use lib.Arith.{digits_div}

pub share_exact : (x d : ℕ) → 1 ≤ d → x % d ≡ 0 → x < 2 ^ 32 → x * (2 ^ 32 / d + 1) / 2 ^ 32 ≡ x / d
share_exact x d pos whole fits =
    let t : ℕ = 2 ^ 32 / d in
    let m : ℕ = 2 ^ 32 % d in
    let q : ℕ = x / d in
    let is : q * d ≡ x = sym (Nat.add-zero (q * d)) ∙ ap (◌+◌ (q * d)) (sym whole) ∙ Nat.div-add-mod' x d in
    let times : x * (t + 1) ≡ x * t + x = Nat.mul-add x t 1 ∙ ap (◌+◌ (x * t)) (Nat.mul-one x) in
    let turned : x * t ≡ q * (t * d) =
    ap (λ y. y * t) (sym is) ∙ Nat.mul_assoc q d t ∙ ap (◌*◌ q) (Nat.mul_comm d t) in
    let split : q * 2 ^ 32 ≡ q * (t * d) + q * m = ap (◌*◌ q) (sym (Nat.div-add-mod' (2 ^ 32) d)) ∙ Nat.mul-add q (t * d) m in
    let less : q * m ≤ q * d = Nat.mul-le-mul_left q (Nat.le_of_lt (Nat.mod-lt (2 ^ 32) pos)) in
    let product : x * (t + 1) ≡ q * 2 ^ 32 + (x - q * m) = omega arith in
    rw product (digits_div q (omega arith))
