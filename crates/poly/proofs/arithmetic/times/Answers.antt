-- `times` meets its contract: each turn takes one bit more of a, highest first.
use mathlib.Core.Path.{◌≡◌, sym, ap, ap₂, ◌∙◌}
use Prim.Native.Nat.{ℕ, suc, ◌+◌, ◌-◌, ◌*◌, ◌/◌, ◌%◌, ◌^◌, ◌<◌}
use native.Mathlib.Nat.{le_refl, div-eq_of_lt, mod-eq_of_lt, div-div-eq-div-mul, pow-suc, lt_of_lt_of_le}
use native.Mathlib.Numerals.{add-one}
use native.Mathlib.Omega.{arith}
use lib.Bits.{bit_xor}
use lib.Dec.{lit<}
use lib.Pow.{shr_lt, pow_mono}
use Rattle.poly.specs.Code.{add, mul, degree}
use Rattle.poly.proofs.Ring
use Rattle.poly.proofs.Blocks
use Rattle.poly.proofs.Leading.{below_degree, degree_lt}
use Rattle.poly.proofs.Binary.{add_xor, bit_scale}
use Rattle.poly.proofs.arithmetic.times.Goals as goal

-- no bit is read at first
none : (a b d : ℕ) → d ≡ degree 2 a → 0 ≡ mul 2 (a / 2 ^ (d + 1)) b
none a b d is =
    sym (rw (add-one d, is, div-eq_of_lt (below_degree 2 (le_refl 2) a)) (Ring.mul_zero_left 2 (le_refl 2) b))

-- one bit more
turn : (a b left sum : ℕ) → a < 2 ^ 32 → b < 2 ^ 32 → 0 < left → sum ≡ mul 2 (a / 2 ^ left) b
    → bit_xor (sum * 2 ^ 1 % 2 ^ 64) (a / 2 ^ (left - 1) % 2 * b) ≡ mul 2 (a / 2 ^ (left - 1)) b
turn a b left sum ha hb pos is =
    let y : ℕ = a / 2 ^ (left - 1) in
    let up : left ≡ suc (left - 1) = omega arith in
    let half : a / 2 ^ left ≡ y / 2 =
    ap (λ (v : ℕ). a / 2 ^ v) up ∙ rw (pow-suc 2 (left - 1)) (sym (div-div-eq-div-mul a (2 ^ (left - 1)) 2)) in
    let rest_lt : a / 2 ^ left < 2 ^ 31 = shr_lt 31 left (lt_of_lt_of_le ha (pow_mono {i = 32} {j = 31 + left} (omega arith))) in
    let sum_lt : sum < 2 ^ 62 = rw is (Blocks.mul_lt 2 (le_refl 2) 31 31 rest_lt hb) in
    let doubled : sum * 2 % 2 ^ 64 ≡ sum * 2 = mod-eq_of_lt (omega arith) in
    rw doubled
    (sym (add_xor (sum * 2) (y % 2 * b))
    ∙ ap₂ (λ (u v : ℕ). add 2 (u * 2) v) (is ∙ ap (λ (v : ℕ). mul 2 v b) half) (sym (bit_scale (y % 2) b (omega arith)))
    ∙ sym (Ring.mul_step 2 (le_refl 2) y b))

few : (c : goal.After-degree_of-place) → c.degree_of-place.result < 32
few c = rw c.degree_of-place.ensures (degree_lt 2 (le_refl 2) 32 c.ranges.a.fits (lit< tt))

pub overflow_step-place : goal.overflow_step-place
overflow_step-place c = omega (arith, few c)

pub loop-place-init : goal.loop-place-init
loop-place-init c = none c.args.a c.args.b c.degree_of-place.result c.degree_of-place.ensures

pub overflow_shr-a : goal.overflow_shr-a
overflow_shr-a c =
    let d : c.degree_of-place.result < 32 = rw c.degree_of-place.ensures (degree_lt 2 (le_refl 2) 32 c.ranges.a.fits (lit< tt)) in
    omega arith

pub loop-place-preserved : goal.loop-place-preserved
loop-place-preserved c =
    let l = c.loop-place in
    rw c.scaled.ensures
    (turn c.args.a c.args.b l.place l.sum c.ranges.a.fits c.ranges.b.fits c.loop-place-test.true l.invariant)
