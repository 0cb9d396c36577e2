-- Quotients and their parts: the degrees, the intermediate bits and the word give the quotients, and the quotients give them back. Since
-- 2^d ≤ q < 2^(d+1), a quotient q is 2^d plus twice its intermediate bits plus its constant term.
use Prim.Native.Nat.{ℕ, zero, suc, ◌+◌, ◌-◌, ◌*◌, ◌/◌, ◌%◌, ◌^◌, ◌≤◌, ◌<◌}
use native.Mathlib.Nat.{le_refl, eq-zero-or-pos, pow-suc, mod-lt, div-add-mod', div-lt_iff_lt-mul, mul-one, add-mul, mul_assoc, mul_comm}
use native.Mathlib.Numerals.{sub-one}
use native.Mathlib.Decide.{dec_lt}
use native.Mathlib.Omega.{arith}
use mathlib.Core.Logic.{◌⊎◌, inl, inr}
use mathlib.Core.Path.{◌≡◌, refl, sym, ap, ap₂, ◌∙◌}
use mathlib.Core.Bool.{Bool, true, false}
use mathlib.Core.List.{List, [], ◌∷◌, map}
use lib.ListN.{length}
use lib.Arith.{digits_div, digits_mod, digits_lt}
use lib.Pow.{pow_pos, pow-add}
use borrow.Author.Tests.{eq-eqb, ne_eqb}
use Rattle.poly.specs.Code.{degree, HasDegree}
use Rattle.pairs.specs.Counts.{sum}
use Rattle.pairs.specs.Sequences.{bits, bit, quotients}
use Rattle.pairs.proofs.Valid.{EachPositive, constant}
use Rattle.poly.proofs.Leading.{degree_has, degree_is, degree_zero}

-- The intermediate bits of a sequence, as a number.
abbrev pub middle : List ℕ → ℕ
middle [] = 0
middle (q ∷ qs) = (q - 2 ^ degree 2 q) / 2 * 2 ^ bits (map (degree 2) qs) + middle qs

pub pow_half : (d : ℕ) → 1 ≤ d → 2 ^ d ≡ 2 * 2 ^ (d - 1)
pow_half zero h = absurd (omega arith)
pow_half (suc d) h = rw (sub-one, pow-suc) (mul_comm (2 ^ d) 2)

bit_le : (l : Bool) → bit l ≤ 1
bit_le false = omega arith
bit_le true = omega arith

constant_bit : (q : ℕ) (l : Bool) → q % 2 ≡ bit l → constant q ≡ l
constant_bit q false e = ne_eqb (q % 2) 1 (λ o. omega arith)
constant_bit q true e = eq-eqb (q % 2) 1 e

pub bit_constant : (q : ℕ) → bit (constant q) ≡ q % 2
bit_constant q = elim (dec_lt (q % 2) 1) [
  | yes l ↦ let even : q % 2 ≡ 0 = omega arith in ap bit (constant_bit q false even) ∙ sym even
  | no l ↦ let odd : q % 2 ≡ 1 = omega arith in ap bit (constant_bit q true odd) ∙ sym odd
]

-- One quotient from its parts.
module _ (d m : ℕ) (l : Bool) (pos : 1 ≤ d) (fits : m < 2 ^ (d - 1)) where
  quotient_degree : degree 2 (2 ^ d + m * 2 + bit l) ≡ d
  quotient_degree =
      degree_is 2 (le_refl 2) (record { low = omega arith; high = omega (arith, pow_half d pos, pow-suc 2 d, bit_le l) })

  quotient_constant : constant (2 ^ d + m * 2 + bit l) ≡ l
  quotient_constant = constant_bit (2 ^ d + m * 2 + bit l) l (omega (arith, pow_half d pos, bit_le l))

  quotient_middle : (2 ^ d + m * 2 + bit l - 2 ^ d) / 2 ≡ m
  quotient_middle = omega (arith, bit_le l)

pub nonzero : (q : ℕ) → 1 ≤ degree 2 q → 0 < q
nonzero q h = go (eq-zero-or-pos q)
  where
    go : (q ≡ 0) ⊎ (0 < q) → 0 < q
    go (inl e) = absurd (omega (arith, ap (degree 2) e, degree_zero 2 (le_refl 2)))
    go (inr l) = l

-- One quotient from its code.
module _ (q : ℕ) (pos : 1 ≤ degree 2 q) where
  pub code_has : HasDegree 2 (degree 2 q) q
  code_has = degree_has 2 (le_refl 2) (nonzero q pos)

  code_middle_lt : (q - 2 ^ degree 2 q) / 2 < 2 ^ (degree 2 q - 1)
  code_middle_lt = omega (arith, code_has.low, code_has.high, pow_half (degree 2 q) pos, pow-suc 2 (degree 2 q))

  code_is : 2 ^ degree 2 q + (q - 2 ^ degree 2 q) / 2 * 2 + bit (constant q) ≡ q
  code_is = omega (arith, code_has.low, pow_half (degree 2 q) pos, bit_constant q)

-- What the sequence of these parts is known by.
pub record Parts (ds : List ℕ) (b : ℕ) (w : List Bool) (qs : List ℕ) : Type 0 where
  pub degrees : map (degree 2) qs ≡ ds
  pub between : middle qs ≡ b
  pub word : map constant qs ≡ w

pub quotients_parts : (ds : List ℕ) (b : ℕ) (w : List Bool) → EachPositive ds → b < 2 ^ bits ds → length w ≡ length ds
    → Parts ds b w (quotients ds b w)
quotients_parts [] b [] p h e = record { degrees = refl; between = omega arith; word = refl }
quotients_parts [] b (l ∷ w) p h e = absurd (omega arith)
quotients_parts (d ∷ ds) b [] p h e = absurd (omega arith)
quotients_parts (d ∷ ds) b (l ∷ w) p h e =
    go ((div-lt_iff_lt-mul (pow_pos (bits ds))).1 (rw pow-add at h))
    (quotients_parts ds (b % M) w p.1 (mod-lt b (pow_pos (bits ds))) (omega arith))
  where
    M : ℕ
    M = 2 ^ bits ds

    go : b / M < 2 ^ (d - 1) → Parts ds (b % M) w (quotients ds (b % M) w) → Parts (d ∷ ds) b (l ∷ w) (quotients (d ∷ ds) b (l ∷ w))
    go fits t = record {
      degrees = ap₂ ◌∷◌ (quotient_degree d (b / M) l p.0 fits) t.degrees;
      between = rw (quotient_degree d (b / M) l p.0 fits, quotient_middle d (b / M) l p.0 fits, t.degrees, t.between)
          (div-add-mod' b M);
      word = ap₂ ◌∷◌ (quotient_constant d (b / M) l p.0 fits) t.word;
    }

pub middle_lt : (qs : List ℕ) → EachPositive (map (degree 2) qs) → middle qs < 2 ^ bits (map (degree 2) qs)
middle_lt [] p = omega arith
middle_lt (q ∷ qs) p = rw pow-add (digits_lt (code_middle_lt q p.0) (middle_lt qs p.1))

pub quotients_of_parts : (qs : List ℕ) → EachPositive (map (degree 2) qs) → quotients (map (degree 2) qs) (middle qs) (map constant qs) ≡ qs
quotients_of_parts [] p = refl
quotients_of_parts (q ∷ qs) p =
    let low : middle qs < 2 ^ bits (map (degree 2) qs) = middle_lt qs p.1 in
    rw (digits_div ((q - 2 ^ degree 2 q) / 2) low, digits_mod ((q - 2 ^ degree 2 q) / 2) low)
    (ap₂ ◌∷◌ (code_is q p.0) (quotients_of_parts qs p.1))

-- Each degree d leaves d - 1 intermediate bits.
pub bits_total : (ds : List ℕ) → EachPositive ds → bits ds + length ds ≡ sum ds
bits_total [] p = refl
bits_total (d ∷ ds) p = omega (arith, p.0, bits_total ds p.1)

-- The intermediate bits read quotient by quotient, x so far.
abbrev pub middle_from : ℕ → List ℕ → ℕ
middle_from x [] = x
middle_from x (q ∷ qs) = middle_from (x * 2 ^ (degree 2 q - 1) + (q - 2 ^ degree 2 q) / 2) qs

pub middle_from_is : (x : ℕ) (qs : List ℕ) → middle_from x qs ≡ x * 2 ^ bits (map (degree 2) qs) + middle qs
middle_from_is x [] = omega (arith, mul-one x)
middle_from_is x (q ∷ qs) =
    let m : ℕ = (q - 2 ^ degree 2 q) / 2 in
    let D : ℕ = degree 2 q - 1 in
    let B : ℕ = bits (map (degree 2) qs) in
    middle_from_is (x * 2 ^ D + m) qs
    ∙ omega (arith, add-mul (x * 2 ^ D) m (2 ^ B), mul_assoc x (2 ^ D) (2 ^ B), ap (λ v. x * v) (pow-add 2 D B))
