-- The square of a polynomial f of degree n with a constant term is a Latin square. Two columns of one row with the same symbol differ by
-- a d with f d below x^n, but degrees add up; two rows of one column differ by a d such that x^n divides f d, but x does not divide f.
use mathlib.Core.Path.{◌≡◌, refl, sym, ◌∙◌}
use Prim.Native.Nat.{ℕ, zero, suc, ◌+◌, ◌*◌, ◌/◌, ◌%◌, ◌^◌, ◌≤◌, ◌<◌}
use native.Mathlib.Nat
use native.Mathlib.Omega.{arith}
use lib.Arith.{digits_div, digits_mod, mod-mul, lt-one}
use lib.Pow.{pow-add}
use Rattle.poly.specs.Code.{add, scale, mul, HasDegree}
use Rattle.poly.specs.Division.{HasInverses}
use Rattle.poly.proofs.Digits.{p_pos, zero_digit}
use Rattle.poly.proofs.Ring
use Rattle.poly.proofs.Blocks
use Rattle.poly.proofs.Divisor
use Rattle.squares.specs.Squares.{Latin}
use Rattle.squares.specs.Symbols.{symbol}
use Rattle.squares.proofs.Pigeonhole.{Injective, once}
use Rattle.squares.proofs.Codes
use Rattle.squares.proofs.Codes.{digits_unique}
use Rattle.squares.proofs.Middle
use Rattle.squares.proofs.Linear

module _ (p : ℕ) (p2 : 2 ≤ p) (inverses : HasInverses p) where
  -- if f has a constant term, no multiple a f with 0 < a < x^k is divisible by x^k
  low_zero : (f : ℕ) → 0 < f % p → (k a : ℕ) → a < p ^ k → mul p a f % p ^ k ≡ 0 → a ≡ 0
  low_zero f constant zero a h e = lt-one (rw (Nat.pow-zero p) at h)
  low_zero f constant (suc k) a h e =
      sym (Nat.div-add-mod' a p) ∙ rw (d_zero, low_zero f constant k x x_lt rest_zero) (zero_digit p p2 0)
    where
      x : ℕ
      x = a / p

      d : ℕ
      d = a % p

      x_lt : x < p ^ k
      x_lt = (Nat.div-lt_iff_lt-mul (p_pos p p2)).1 (rw (Nat.pow-suc p k) at h)

      -- the product, its lowest digit apart
      lowest : ℕ
      lowest = d * (f % p) % p

      lowest_lt : lowest < p
      lowest_lt = Ring.reduced p p2 (d * (f % p))

      rest : ℕ
      rest = add p (mul p x f) (scale p d (f / p))

      product : mul p a f ≡ rest * p + lowest
      product =
          Ring.mul_step p p2 a f
          ∙ rw (Ring.scale_step p p2 d f) (Ring.add_shift_cons p p2 (mul p x f) (scale p d (f / p)) lowest_lt)

      zeros : (rest % p ^ k ≡ 0) × (lowest ≡ 0)
      zeros =
          digits_unique (rest % p ^ k) 0 lowest_lt (p_pos p p2)
          (sym (rw (
            product,
            Nat.pow-suc p k,
            mod-mul (rest * p + lowest) (Blocks.pow_pos p p2 k) (p_pos p p2),
            digits_div rest lowest_lt,
            digits_mod rest lowest_lt,
          ) at (sym e)) ∙ sym (zero_digit p p2 0))

      d_zero : d ≡ 0
      d_zero = Codes.mul_zero_factor p p2 inverses constant (Codes.digit_mul p p2 (Ring.reduced p p2 a) (Ring.reduced p p2 f) ∙ zeros.1)

      rest_zero : mul p x f % p ^ k ≡ 0
      rest_zero =
          rw (d_zero, Ring.scale_zero p p2 (f / p), Ring.add_zero_right p p2 (mul p x f)) at zeros.0

  module _ (n : ℕ) {f : ℕ} (has : HasDegree p n f) where
    -- row 0 shows symbol 0 in column 0 alone
    row_zero : {col : ℕ} → col < p ^ n → symbol p n f 0 col ≡ 0 → col ≡ 0
    row_zero {col} h e =
        let M : ℕ = mul p col f in
        let M_lt : M < p ^ n * p ^ n = rw (pow-add p n n) at (Blocks.mul_lt p p2 n n h has.high) in
        let high_lt : M / p ^ n < p ^ n = (Nat.div-lt_iff_lt-mul (Blocks.pow_pos p p2 n)).1 M_lt in
        let high_zero : M / p ^ n ≡ 0 =
        sym (Nat.mod-eq_of_lt high_lt)
        ∙ (rw (Middle.symbol_middle p p2 n 0 has.high h, Nat.zero-mul (p ^ n), Nat.zero-add col, Ring.mul_comm p p2 f col) at e) in
        let high_lt_one : M / p ^ n < 1 = omega arith in
        let below : M < p ^ n = rw (Nat.one-mul (p ^ n)) at ((Nat.div-lt_iff_lt-mul (Blocks.pow_pos p p2 n)).0 high_lt_one) in
        Codes.mul_zero_factor p p2 inverses (Codes.degree_nonzero p p2 has) (Divisor.divides_small p p2 inverses has (col, refl) below)

    module _ (constant : 0 < f % p) where
      -- column 0 shows symbol 0 in row 0 alone
      column_zero : {row : ℕ} → row < p ^ n → symbol p n f row 0 ≡ 0 → row ≡ 0
      column_zero {row} h e =
          low_zero f constant n row h
          (rw (
            Middle.symbol_middle p p2 n row has.high (Blocks.pow_pos p p2 n),
            Nat.add-zero (row * p ^ n),
            Ring.mul_comm p p2 f (row * p ^ n),
            Blocks.mul_shifts p p2 n row f,
            Nat.mul-div_cancel (mul p row f) (Blocks.pow_pos p p2 n),
          ) at e)

      pub latin : Latin (p ^ n) (symbol p n f)
      latin =
          record {
            rows = λ row value row_lt lt. once (in_row row) value lt;
            columns = λ col value col_lt lt. once (in_column col col_lt) value lt;
          }
        where
          in_row : (row : ℕ) → Injective (p ^ n) (p ^ n) (λ col. symbol p n f row col)
          in_row row =
              record {
                into = λ col h. Linear.symbol_lt p p2 n has.high row h;
                apart =
                    λ c c' h h' e.
                    Ring.add_neg_zero p p2 c c'
                    (row_zero (Codes.minus_lt p p2 n h h')
                    (rw (Ring.add_neg p p2 row) at (Linear.symbol_minus p p2 n has.high row row h h' e)));
              }

          in_column : (col : ℕ) → col < p ^ n → Injective (p ^ n) (p ^ n) (λ row. symbol p n f row col)
          in_column col h =
              record {
                into = λ row _. Linear.symbol_lt p p2 n has.high row h;
                apart =
                    λ r r' hr hr' e.
                    Ring.add_neg_zero p p2 r r'
                    (column_zero (Codes.minus_lt p p2 n hr hr')
                    (rw (Ring.add_neg p p2 col) at (Linear.symbol_minus p p2 n has.high r r' h h e)));
              }
