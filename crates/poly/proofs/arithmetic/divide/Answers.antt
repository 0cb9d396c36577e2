-- `divide` meets its contract: each turn puts one term into the quotient, and takes b times that term from the remainder.
use mathlib.Core.Path.{◌≡◌, sym, ap, ◌∙◌}
use Prim.Native.Nat.{ℕ, suc, ◌+◌, ◌-◌, ◌*◌, ◌/◌, ◌%◌, ◌^◌, ◌≤◌, ◌<◌}
use native.Mathlib.Nat.{le_refl, pos_of_ne-zero, lt_of_lt_of_le, lt_trans}
use native.Mathlib.Omega.{arith}
use lib.Dec.{lit<}
use lib.Bits.{bit_xor}
use lib.Count.{leading_top}
use lib.Pow.{pow-lt, shl_exact, high, ones_lt, ones_split, lt_of_le_ones}
use Rattle.poly.specs.Code.{add, mul, HasDegree}
use Rattle.poly.specs.Division.{divide}
use Rattle.poly.proofs.Ring
use Rattle.poly.proofs.Blocks
use Rattle.poly.proofs.Leading
use Rattle.poly.proofs.Division.{divide_is}
use Rattle.poly.proofs.Binary.{add_xor, leads_cancel}
use Rattle.poly.proofs.Primes.{inverses_2}
use Rattle.poly.proofs.arithmetic.divide.Invariants.{limit, zeros}
use Rattle.poly.proofs.arithmetic.divide.Goals as goal

-- b of degree n and the remainder of degree s + n
record Place (b r s : ℕ) : Type 0 where
  n : ℕ
  divisor : HasDegree 2 n b
  remainder : HasDegree 2 (s + n) r
  shift : s + zeros r ≡ zeros b
  fits : suc (s + n) ≤ 32

limit_is : (b j : ℕ) → zeros b + suc j ≡ 32 → limit b ≡ 2 ^ j - 1
limit_is b j e =
    let bits : 31 ≡ j + zeros b = omega arith in
    ap (λ (k : ℕ). (2 ^ k - 1) / 2 ^ zeros b) bits ∙ ap (λ (v : ℕ). v / 2 ^ zeros b) (ones_split j (zeros b))
    ∙ high (2 ^ j - 1) (zeros b) (ones_lt (zeros b))

-- the shift s by the leading zeros
place : (b r : ℕ) → 0 < b → b < 2 ^ 32 → r < 2 ^ 32 → limit b < r → Place b r (zeros b - zeros r)
place b r pos hb hr h =
    let (j, eb, least, most) = leading_top 32 b pos hb in
    let long : 2 ^ j ≤ r = omega (arith, limit_is b j eb, h) in
    let (m, er, least', most') = leading_top 32 r (omega (arith, h)) hr in
    let power : HasDegree 2 j (2 ^ j) = record { low = le_refl (2 ^ j); high = pow-lt (le_refl (suc j)) } in
    let has : HasDegree 2 m r = record { low = least'; high = most' } in
    let le : j ≤ m = Leading.degree_le 2 (le_refl 2) power has long in
    let e : zeros b - zeros r + j ≡ m = omega arith in
    record {
      n = j;
      divisor = record { low = least; high = most };
      remainder = rw e has;
      shift = omega arith;
      fits = omega arith;
    }

-- one turn at the shift s: the remainder falls, and the sum stays
module _ {b r s : ℕ} (at : Place b r s) where
  shifted : b * 2 ^ s % 2 ^ 32 ≡ b * 2 ^ s
  shifted = shl_exact (suc at.n) s 32 at.divisor.high (omega (arith, at.fits))

  one_shifted : 1 * 2 ^ s % 2 ^ 32 ≡ 1 * 2 ^ s
  one_shifted = shl_exact {a = 1} 1 s 32 (lit< tt) (omega (arith, at.fits))

  falls : bit_xor r (b * 2 ^ s % 2 ^ 32) < r
  falls =
      rw (shifted, ← add_xor r (b * 2 ^ s))
      (lt_of_lt_of_le (leads_cancel at.remainder (Leading.shift_degree 2 (le_refl 2) s at.divisor)) at.remainder.low)

  stays : (a q : ℕ) → add 2 (mul 2 q b) r ≡ a
      → add 2 (mul 2 (bit_xor q (1 * 2 ^ s % 2 ^ 32)) b) (bit_xor r (b * 2 ^ s % 2 ^ 32)) ≡ a
  stays a q sum =
      rw (
        shifted,
        one_shifted,
        ← add_xor r (b * 2 ^ s),
        ← add_xor q (1 * 2 ^ s),
        Ring.add_mul 2 (le_refl 2) q (1 * 2 ^ s) b,
        Blocks.mul_shifts 2 (le_refl 2) s 1 b,
        Ring.one_mul 2 (le_refl 2) b,
      )
      (ap (λ (v : ℕ). add 2 (add 2 (mul 2 q b) (b * 2 ^ s)) (add 2 r v)) (sym (Ring.scale_one 2 (le_refl 2) (b * 2 ^ s)))
      ∙ Ring.add_neg_cancel 2 (le_refl 2) (mul 2 q b) (b * 2 ^ s) r ∙ sum)

-- the end: the remainder is smaller than b
ends : (a b q r : ℕ) → 0 < b → b < 2 ^ 32 → r ≤ limit b → add 2 (mul 2 q b) r ≡ a
    → record { quotient = q; remainder = r } ≡ divide 2 a b
ends a b q r pos hb h sum =
    let (j, eb, least, most) = leading_top 32 b pos hb in
    let small : r < 2 ^ j = lt_of_le_ones j (rw (limit_is b j eb) at h) in
    let (eq, er) = divide_is 2 (le_refl 2) inverses_2 (record { low = least; high = most }) (record { sum = sum; small = small }) in
    λ i. record { quotient = eq i; remainder = er i }

pub returns-then-b-eq0 : goal.returns-then-b-eq0
unfolding divide
returns-then-b-eq0 c = rw c.if-b-eq0.true

pub returns : goal.returns
returns c =
    ends c.args.a c.args.b c.loop-remainder.quotient
    c.loop-remainder.remainder (pos_of_ne-zero c.if-b-eq0.false) c.ranges.b.fits
    c.loop-remainder-test.false c.loop-remainder.invariant.1

pub loop-remainder-init : goal.loop-remainder-init
loop-remainder-init c = (
  c.ranges.a.fits,
  rw (Ring.mul_zero_left 2 (le_refl 2) c.args.b) (Ring.add_zero_left 2 (le_refl 2) c.args.a),
)

here : (c : goal.In-loop-remainder) → Place c.args.b c.loop-remainder.remainder
    (zeros c.args.b - zeros c.loop-remainder.remainder)
here c =
    place c.args.b c.loop-remainder.remainder (pos_of_ne-zero c.if-b-eq0.false)
    c.ranges.b.fits c.loop-remainder.invariant.0 c.loop-remainder-test.true

pub overflow_sub-shift : goal.overflow_sub-shift
overflow_sub-shift c = omega (arith, (here c).shift)

pub loop-remainder-smaller : goal.loop-remainder-smaller
loop-remainder-smaller c = falls (here c)

pub loop-remainder-preserved : goal.loop-remainder-preserved
loop-remainder-preserved c = (
  lt_trans (falls (here c)) c.loop-remainder.invariant.0,
  stays (here c) c.args.a c.loop-remainder.quotient c.loop-remainder.invariant.1,
)
