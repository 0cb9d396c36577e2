-- A word as a number, its letters the binary digits with the first letter highest, for code that holds a word in one register.
use Prim.Native.Nat.{ℕ, zero, suc, ◌+◌, ◌-◌, ◌*◌, ◌/◌, ◌%◌, ◌^◌, ◌<◌}
use native.Mathlib.Nat.{pow-suc, pow-succ', one-mul, zero-mul, zero-add, mul-one, add-mul, mul_assoc, mul-add-div_right}
use native.Mathlib.Decide.{dec_lt}
use native.Mathlib.Omega.{arith}
use mathlib.Core.Path.{◌≡◌, refl, ap, ap₂, ◌∙◌}
use mathlib.Core.Bool.{Bool, true, false, cond}
use mathlib.Core.List.{List, [], ◌∷◌}
use lib.ListN.{length}
use lib.Dec.{ltb, eqb}
use lib.Arith.{digits_div}
use lib.Pow.{pow_pos}
use borrow.Author.Tests.{lt-ltb, le-ltb}
use Rattle.pairs.specs.Words.{State, step, as_number}
use Rattle.pairs.specs.Sequences.{bit}
use Rattle.pairs.proofs.Valid.{constant}
use Rattle.pairs.proofs.Words.{count, count_suc, word_at, word_at_known}

number_cons : (l : Bool) (w : List Bool) → as_number (l ∷ w) ≡ bit l * 2 ^ length w + as_number w
number_cons false w = simp (zero-mul, zero-add)
number_cons true w = simp one-mul

-- The last m letters of a number.
abbrev pub letters : ℕ → ℕ → List Bool
letters zero x = []
letters (suc m) x = constant (x / 2 ^ m) ∷ letters m x

pub number_lt : (w : List Bool) → as_number w < 2 ^ length w
number_lt [] = omega arith
number_lt (false ∷ w) = omega (arith, pow-suc 2 (length w), number_lt w)
number_lt (true ∷ w) = omega (arith, pow-suc 2 (length w), number_lt w)

-- Digits above the m letters do not matter.
letters_above : (m c x : ℕ) → letters m (c * 2 ^ m + x) ≡ letters m x
letters_above zero c x = refl
letters_above (suc m) c x =
    let e : c * 2 ^ suc m ≡ c * 2 * 2 ^ m = rw (pow-succ' 2 m, mul_assoc c 2 (2 ^ m)) in
    let same : (c * 2 + x / 2 ^ m) % 2 ≡ x / 2 ^ m % 2 = omega arith in
    rw (e, mul-add-div_right (pow_pos m)) (ap₂ ◌∷◌ (ap (λ v. eqb v 1) same) (letters_above m (c * 2) x))

constant_bit : (l : Bool) → constant (bit l) ≡ l
constant_bit false = refl
constant_bit true = refl

pub letters_number : (w : List Bool) → letters (length w) (as_number w) ≡ w
letters_number [] = refl
letters_number (l ∷ w) =
    rw (number_cons l w, digits_div (bit l) (number_lt w), letters_above (length w) (bit l) (as_number w))
    (ap₂ ◌∷◌ (constant_bit l) (letters_number w))

-- The number read letter by letter, x so far.
abbrev pub number_from : ℕ → List Bool → ℕ
number_from x [] = x
number_from x (l ∷ w) = number_from (x * 2 + bit l) w

pub number_from_is : (x : ℕ) (w : List Bool) → number_from x w ≡ x * 2 ^ length w + as_number w
number_from_is x [] = omega (arith, mul-one x)
number_from_is x (l ∷ w) =
    number_from_is (x * 2 + bit l) w
    ∙ omega (
      arith,
      number_cons l w,
      add-mul (x * 2) (bit l) (2 ^ length w),
      mul_assoc x 2 (2 ^ length w),
      ap (λ v. x * v) (pow-succ' 2 (length w)),
    )

-- The number of the word at index i, read from a state on.
abbrev pub word_number : State → ℕ → ℕ → ℕ
word_number s zero i = 0
word_number s (suc m) i =
    let zeros : ℕ = count (step s false) m in
    let with0 : ℕ = word_number (step s false) m i in
    let with1 : ℕ = 2 ^ m + word_number (step s true) m (i - zeros) in
    cond (ltb i zeros) with0 with1

pub word_number_is : (s : State) (m i : ℕ) → i < count s m → word_number s m i ≡ as_number (word_at s m i)
word_number_is s zero i h = refl
word_number_is s (suc m) i h = elim (dec_lt i (count (step s false) m)) [
  | yes l ↦ rw (lt-ltb i (count (step s false) m) l) (word_number_is (step s false) m i l)
  | no l ↦ let i' : ℕ = i - count (step s false) m in let h' : i' < count (step s true) m = omega (arith, count_suc s m) in
      rw (le-ltb i (count (step s false) m) (omega arith), (word_at_known (step s true) m i' h').long)
      (ap (λ v. 2 ^ m + v) (word_number_is (step s true) m i' h'))
]
