-- The decimal digits are those that std writes, and a number of 64 bits has at most 20 of them.
use mathlib.Core.Path.{◌≡◌, refl}
use Prim.Native.Nat.{ℕ, zero, suc, ◌+◌, ◌/◌, ◌%◌, ◌^◌, ◌≤◌, ◌<◌}
use mathlib.Core.List.{[], ◌∷◌}
use native.Mathlib.Decide.{dec_lt}
use native.Mathlib.Nat.{pow-suc}
use native.Mathlib.Omega.{arith}
use lib.ListN.{length, length-append}
use Rattle.std.proofs.lemmas.Fmt.{decimal_digit, decimal_step}
use Rattle.std.specs.Fmt as std
use Rattle.lines.specs.Text.{digits_in, decimal}

-- A tenth has one digit less.
tenth_low : (k n : ℕ) → n < 10 ^ suc k → n / 10 < 10 ^ k
tenth_low k n low = omega (arith, pow-suc 10 k)

no_digits : (fuel : ℕ) → digits_in fuel 0 ≡ []
no_digits zero = refl
no_digits (suc fuel) = refl

digits_in_std : (fuel n : ℕ) → 0 < n → n ≤ fuel → n < 2 ^ 64 → digits_in fuel n ≡ std.decimal n
digits_in_std zero n some enough low = absurd (omega arith)
digits_in_std (suc fuel) zero some enough low = absurd (omega arith)
digits_in_std (suc fuel) (suc n) some enough low = elim (dec_lt (suc n) 10) [
  | yes h ↦
      let none : suc n / 10 ≡ 0 = omega arith in
      let last : suc n % 10 ≡ suc n = omega arith in
      rw (none, last, no_digits fuel, decimal_digit (suc n) h)
  | no h ↦
      let rest = digits_in_std fuel (suc n / 10) (omega arith) (omega arith) (omega arith) in
      rw (rest, decimal_step (suc n) (omega arith) low)
]

pub decimal_std : (n : ℕ) → n < 2 ^ 64 → std.decimal n ≡ decimal n
unfolding decimal
decimal_std n low = elim (dec_lt n 10) [
  | yes h ↦
      let none : n / 10 ≡ 0 = omega arith in
      let last : n % 10 ≡ n = omega arith in
      rw (none, last, no_digits n, decimal_digit n h)
  | no h ↦ rw (digits_in_std n (n / 10) (omega arith) (omega arith) (omega arith), decimal_step n (omega arith) low)
]

-- A number of 64 bits has at most 20 digits.
digits_short : (k fuel n : ℕ) → n < 10 ^ k → length (digits_in fuel n) ≤ k
digits_short k zero n low = omega arith
digits_short k (suc fuel) zero low = omega arith
digits_short zero (suc fuel) (suc n) low = absurd (omega arith)
digits_short (suc k) (suc fuel) (suc n) low =
    let ih = digits_short k fuel (suc n / 10) (tenth_low k (suc n) low) in
    omega (arith, length-append (digits_in fuel (suc n / 10)) ((48 + suc n % 10) ∷ []))

pub decimal_short : (n : ℕ) → n < 2 ^ 64 → length (decimal n) ≤ 20
unfolding decimal
decimal_short n h =
    omega (arith, digits_short 19 n (n / 10) (omega arith), length-append (digits_in n (n / 10)) ((48 + n % 10) ∷ []))
