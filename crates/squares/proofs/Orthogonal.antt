-- Two squares are orthogonal exactly for coprime polynomials. If both symbols of X are 0, then f X and g X are A + x^(2n) B and
-- C + x^(2n) D; from g (f X) = f (g X) follow g A = f C and g B = f D, so f divides A and B, which are too small: X is 0. And for a common
-- divisor d, the quotient of x^(2n) by d has both symbols 0, as site 0 has.
use mathlib.Core.Logic.{◌↔◌}
use mathlib.Core.Path.{◌≡◌, sym, ap, ◌∙◌}
use Prim.Native.Nat.{ℕ, suc, ◌+◌, ◌-◌, ◌*◌, ◌/◌, ◌%◌, ◌^◌, ◌≤◌, ◌<◌}
use native.Mathlib.Nat
use native.Mathlib.Nat.{div-add-mod'}
use native.Mathlib.Decide.{dec_lt}
use native.Mathlib.Omega.{arith}
use lib.Arith.{digits_div, digits_lt, mod-mul}
use lib.Pow.{pow-add}
use Rattle.poly.specs.Code.{scale, mul, degree, HasDegree}
use Rattle.poly.specs.Division.{HasInverses, divide}
use Rattle.poly.specs.Coprime.{Coprime}
use Rattle.poly.proofs.Digits.{p_pos}
use Rattle.poly.proofs.Ring
use Rattle.poly.proofs.Blocks
use Rattle.poly.proofs.Leading
use Rattle.poly.proofs.Division
use Rattle.poly.proofs.Division.{Divided}
use Rattle.poly.proofs.Divisor
use Rattle.squares.specs.Squares.{Site, Orthogonal}
use Rattle.squares.specs.Symbols.{symbol}
use Rattle.squares.proofs.Pigeonhole.{crossed}
use Rattle.squares.proofs.Codes
use Rattle.squares.proofs.Codes.{minus, digits_unique}
use Rattle.squares.proofs.Middle
use Rattle.squares.proofs.Middle.{middle}
use Rattle.squares.proofs.Linear

module _ (p : ℕ) (p2 : 2 ≤ p) (inverses : HasInverses p) (n : ℕ) where
  pow_double : p ^ n ≤ p ^ (n + n)
  pow_double = Nat.pow-le-pow_right (p_pos p p2) (omega arith)

  row_lt : {X : ℕ} → X < p ^ (n + n) → X / p ^ n < p ^ n
  row_lt h = (Nat.div-lt_iff_lt-mul (Blocks.pow_pos p p2 n)).1 (rw (pow-add p n n) at h)

  -- ---- numbers without a middle
  -- such a number is its n low digits, and what stands above 2n
  outer : (a : ℕ) → middle p n a ≡ 0 → a ≡ a / p ^ (n + n) * p ^ (n + n) + a % p ^ n
  outer a e =
      sym (div-add-mod' a (p ^ (n + n)))
      ∙ ap (λ (v : ℕ). a / p ^ (n + n) * p ^ (n + n) + v)
      (ap (λ (v : ℕ). a % v) (pow-add p n n) ∙ mod-mul a (Blocks.pow_pos p p2 n) (Blocks.pow_pos p p2 n)
      ∙ rw (e, Nat.zero-mul (p ^ n)) (Nat.zero-add (a % p ^ n)))

  low_product_lt : {f a : ℕ} → f < p ^ suc n → a < p ^ n → mul p f a < p ^ (n + n)
  low_product_lt {f} {a} f_lt h = rw (Ring.mul_comm p p2 f a) (Blocks.mul_lt p p2 n n h f_lt)

  -- times f, the two parts stay apart
  outer_mul : {f : ℕ} → f < p ^ suc n → (a : ℕ) → middle p n a ≡ 0
      → mul p f a ≡ mul p f (a / p ^ (n + n)) * p ^ (n + n) + mul p f (a % p ^ n)
  outer_mul {f} f_lt a e =
      let high : ℕ = a / p ^ (n + n) in
      ap (mul p f) (outer a e ∙ sym (Blocks.add_parts p p2 (n + n) high (Nat.lt_of_lt_of_le (Codes.low_lt p p2 n a) pow_double)))
      ∙ Ring.mul_add p p2 f (high * p ^ (n + n)) (a % p ^ n)
      ∙ rw (Codes.mul_shift_right p p2 (n + n) f high)
      (Blocks.add_parts p p2 (n + n) (mul p f high) (low_product_lt f_lt (Codes.low_lt p p2 n a)))

  -- ---- a divisor d of f, and the quotient of x^(2n) by it
  zero_symbol : {f : ℕ} → HasDegree p n f → symbol p n f 0 0 ≡ 0
  zero_symbol {f} has =
      Middle.symbol_middle p p2 n 0 has.high (Blocks.pow_pos p p2 n)
      ∙ rw (Nat.zero-mul (p ^ n), Ring.mul_zero_right p p2 f, Nat.zero-div (p ^ n)) (Nat.zero-mod (p ^ n))

  module _ {e d X r : ℕ} (has_d : HasDegree p e d) (divided : Divided p e (p ^ (n + n)) d X r) where
    minus_remainder : mul p X d ≡ minus p (p ^ (n + n)) r
    minus_remainder =
        sym
        (rw (← divided.sum, Ring.add_assoc p p2 (mul p X d) r (scale p (p - 1) r), Ring.add_neg p p2 r)
        (Ring.add_zero_right p p2 (mul p X d)))

    quotient_degree : e ≤ n → HasDegree p (n + n) (mul p X d)
    quotient_degree h =
        rw minus_remainder
        (Leading.lead_has p p2
        (Leading.low_lead p p2
        (record {
          rest = 0;
          digit = p2;
          is = sym (Nat.add-zero (1 * p ^ (n + n)) ∙ Nat.one-mul (p ^ (n + n)));
          small = Blocks.pow_pos p p2 (n + n);
        })
        (Blocks.scale_lt p p2 (n + n) (p - 1)
        (Nat.lt_of_lt_of_le divided.small (Nat.pow-le-pow_right (p_pos p p2) (omega arith)))))
        (omega arith))

    -- f = q d, so f X = q x^(2n) - q r, and q r has degree below n
    quotient_symbol : {f : ℕ} (q : ℕ) → mul p q d ≡ f → HasDegree p n f → symbol p n f (X / p ^ n) (X % p ^ n) ≡ 0
    quotient_symbol {f} q qd has_f =
        Middle.symbol_middle p p2 n (X / p ^ n) has_f.high (Codes.low_lt p p2 n X)
        ∙ rw (div-add-mod' X (p ^ n), product, pow-add p n n, ← Nat.mul_assoc q (p ^ n) (p ^ n), digits_div (q * p ^ n) low_lt)
        (Nat.mul-mod_left q (p ^ n))
      where
        low : ℕ
        low = mul p q (scale p (p - 1) r)

        low_lt : low < p ^ n
        low_lt =
            let (has_q, sum_below) = Codes.factor_degree p p2 inverses q has_d (rw (← qd) at has_f) in
            let degrees : n ≡ e + degree p q = omega arith in
            rw (Ring.mul_comm p p2 q (scale p (p - 1) r), degrees)
            (Blocks.mul_lt p p2 e (degree p q) (Blocks.scale_lt p p2 e (p - 1) divided.small) has_q.high)

        times_power : mul p q (p ^ (n + n)) ≡ q * p ^ (n + n)
        times_power =
            ap (mul p q) (sym (Nat.one-mul (p ^ (n + n)))) ∙ Codes.mul_shift_right p p2 (n + n) q 1
            ∙ rw (Ring.mul_comm p p2 q 1, Ring.one_mul p p2 q)

        product : mul p f X ≡ q * p ^ (n + n) + low
        product =
            ap (λ (v : ℕ). mul p v X) (sym qd) ∙ Ring.mul_assoc p p2 q d X
            ∙ ap (mul p q) (Ring.mul_comm p p2 d X ∙ minus_remainder)
            ∙ Ring.mul_add p p2 q (p ^ (n + n)) (scale p (p - 1) r)
            ∙ rw times_power (Blocks.add_parts p p2 (n + n) q (Nat.lt_of_lt_of_le low_lt pow_double))

  module _ {f g : ℕ} (has_f : HasDegree p n f) (has_g : HasDegree p n g) where
    -- ---- coprime polynomials
    module _ (coprime : Coprime p f g) where
      too_small : {a : ℕ} (c : ℕ) → mul p g a ≡ mul p f c → a < p ^ n → a ≡ 0
      too_small {a} c e h =
          Divisor.divides_small p p2 inverses has_f
          (Divisor.euclid p p2 inverses f g a coprime (c, Ring.mul_comm p p2 c f ∙ sym e)) h

      kernel : (X : ℕ) → X < p ^ (n + n) → middle p n (mul p f X) ≡ 0 → middle p n (mul p g X) ≡ 0 → X ≡ 0
      kernel X X_lt ef eg =
          let Q : ℕ = p ^ (n + n) in
          let F : ℕ = mul p f X in
          let G : ℕ = mul p g X in
          let joined : mul p g (F / Q) * Q + mul p g (F % p ^ n) ≡ mul p f (G / Q) * Q + mul p f (G % p ^ n) =
          sym (outer_mul has_g.high F ef) ∙ Codes.mul_left_comm p p2 g f X ∙ outer_mul has_f.high G eg in
          let g_lt : mul p g (F % p ^ n) < Q = low_product_lt has_g.high (Codes.low_lt p p2 n F) in
          let f_lt : mul p f (G % p ^ n) < Q = low_product_lt has_f.high (Codes.low_lt p p2 n G) in
          let (highs, lows) = digits_unique (mul p g (F / Q)) (mul p f (G / Q)) g_lt f_lt joined in
          let F_lt : F < p ^ n * Q =
          rw (Ring.mul_comm p p2 f X, Nat.mul_comm (p ^ n) Q, ← pow-add p (n + n) n) (Blocks.mul_lt p p2 (n + n) n X_lt has_f.high) in
          let low_zero : F % p ^ n ≡ 0 = too_small (G % p ^ n) lows (Codes.low_lt p p2 n F) in
          let high_zero : F / Q ≡ 0 =
          too_small (G / Q) highs ((Nat.div-lt_iff_lt-mul (Blocks.pow_pos p p2 (n + n))).1 F_lt) in
          Codes.mul_zero_factor p p2 inverses (Codes.degree_nonzero p p2 has_f)
          (Ring.mul_comm p p2 X f ∙ outer F ef ∙ rw (low_zero, high_zero, Nat.zero-mul Q))

      site_zero : {row col : ℕ} → row < p ^ n → col < p ^ n → symbol p n f row col ≡ 0 → symbol p n g row col ≡ 0 → (row ≡ 0) × (col ≡ 0)
      site_zero {row} {col} hr hc ef eg =
          let zero_site : row * p ^ n + col ≡ 0 =
          kernel (row * p ^ n + col) (rw (pow-add p n n) (digits_lt hr hc))
          (sym (Middle.symbol_middle p p2 n row has_f.high hc) ∙ ef) (sym (Middle.symbol_middle p p2 n row has_g.high hc) ∙ eg) in
          digits_unique row 0 hc (Blocks.pow_pos p p2 n) (zero_site ∙ sym (rw (Nat.zero-mul (p ^ n))))

      coprime_orthogonal : Orthogonal (p ^ n) (symbol p n f) (symbol p n g)
      coprime_orthogonal =
          crossed (λ row col _ h. Linear.symbol_lt p p2 n has_f.high row h) (λ row col _ h. Linear.symbol_lt p p2 n has_g.high row h)
          (λ row row' col col' hr hr' hc hc' ef eg.
          let (rows, cols) =
          site_zero (Codes.minus_lt p p2 n hr hr') (Codes.minus_lt p p2 n hc hc')
          (Linear.symbol_minus p p2 n has_f.high row row' hc hc' ef) (Linear.symbol_minus p p2 n has_g.high row row' hc hc' eg) in
          (Ring.add_neg_zero p p2 row row' rows, Ring.add_neg_zero p p2 col col' cols))

    -- ---- a common divisor
    pub orthogonal_coprime : Orthogonal (p ^ n) (symbol p n f) (symbol p n g) ↔ Coprime p f g
    orthogonal_coprime = (to, coprime_orthogonal)
      where
        to : Orthogonal (p ^ n) (symbol p n f) (symbol p n g) → Coprime p f g
        to orthogonal d (q, qd) (q', q'd) = go (dec_lt d p)
          where
            go : Dec (d < p) → d < p
            go (yes l) = l
            go (no l) =
                let d_pos : 0 < d = omega arith in
                let e : ℕ = degree p d in
                let has_d : HasDegree p e d = Leading.degree_has p p2 d_pos in
                let e_pos : 0 < e = Leading.degree_pos p p2 e has_d (omega arith) in
                let X : ℕ = (divide p (p ^ (n + n)) d).quotient in
                let divided = Division.divide_divided p p2 inverses (p ^ (n + n)) d d_pos in
                let (has_q, q_sum) = Codes.factor_degree p p2 inverses q has_d (rw (← qd) at has_f) in
                let product : HasDegree p (n + n) (mul p X d) = quotient_degree has_d divided (omega arith) in
                let (has_X, X_sum) = Codes.factor_degree p p2 inverses X has_d product in
                let X_lt : X < p ^ (n + n) = Nat.lt_of_lt_of_le has_X.high (Nat.pow-le-pow_right (p_pos p p2) (omega arith)) in
                let same : ◌≡◌ {A = Site} (record { row = X / p ^ n; col = X % p ^ n }) (record { row = 0; col = 0 }) =
                (orthogonal 0 0 (Blocks.pow_pos p p2 n) (Blocks.pow_pos p p2 n)).only _ _ (
                  (row_lt X_lt, Codes.low_lt p p2 n X),
                  quotient_symbol has_d divided q qd has_f,
                  quotient_symbol has_d divided q' q'd has_g,
                )
                ((Blocks.pow_pos p p2 n, Blocks.pow_pos p p2 n), zero_symbol has_f, zero_symbol has_g) in
                let X_zero : X ≡ 0 =
                sym (div-add-mod' X (p ^ n)) ∙ ap (λ (s : Site). s.row * p ^ n + s.col) same ∙ rw (Nat.zero-mul (p ^ n)) in
                let X_pos : 0 < X = Nat.lt_of_lt_of_le (Blocks.pow_pos p p2 (degree p X)) has_X.low in
                absurd (omega arith)
