-- The word at an index, read letter by letter as a number: the words that begin with 0 come first, so the index tells the first letter,
-- and the rest is a word from the next state.
use Prim.Native.Nat.{ℕ, zero, suc, ◌+◌, ◌-◌, ◌^◌, ◌≤◌, ◌<◌}
use native.Mathlib.Omega.{arith}
use mathlib.Core.Path.{◌≡◌, sym, ap, ◌∙◌}
use mathlib.Core.Bool.{true, false}
use mathlib.Core.List.{[]}
use lib.ListN.{length, get_or}
use borrow.Author.Tests.{lt-ltb, le-ltb}
use Rattle.pairs.specs.Words.{State, s10, s11, s01, step, words_from, as_number}
use Rattle.pairs.proofs.Words.{count, count_suc, word_at, word_at_known, listed_words_from}
use Rattle.pairs.proofs.Letters.{number_lt, word_number, word_number_is}

-- The number of the word at index i of those of m letters from a state.
abbrev pub number_at : State → ℕ → ℕ → ℕ
number_at s m i = as_number (get_or (words_from s m) i [])

long : (s : State) (m : ℕ) → length (words_from s m) ≡ count s m
long s m = (listed_words_from s m).long

number_at_is : (s : State) (m i : ℕ) → i < length (words_from s m) → number_at s m i ≡ word_number s m i
number_at_is s m i h =
    let l : i < count s m = rw long at h in
    ap as_number ((listed_words_from s m).stands i l) ∙ sym (word_number_is s m i l)

after_0 : (s : State) (m i : ℕ) → i < count (step s false) m → word_number s (suc m) i ≡ word_number (step s false) m i
after_0 s m i h = rw (lt-ltb i (count (step s false) m) h)

after_1 : (s : State) (m i : ℕ) → count (step s false) m ≤ i
    → word_number s (suc m) i ≡ 2 ^ m + word_number (step s true) m (i - count (step s false) m)
after_1 s m i h = rw (le-ltb i (count (step s false) m) h)

-- The word of no letter.
pub number_at_none : (m i : ℕ) → m ≡ 0 → i < length (words_from s10 m) → number_at s10 m i ≡ 0
number_at_none m i e h = number_at_is s10 m i h ∙ ap (λ v. word_number s10 v i) e

-- A word of m letters is below 2^m.
pub number_at_lt : (s : State) (m i : ℕ) → i < length (words_from s m) → number_at s m i < 2 ^ m
number_at_lt s m i h =
    let l : i < count s m = rw long at h in
    rw ((listed_words_from s m).stands i l) (rw (word_at_known s m i l).long at (number_lt (word_at s m i)))

-- What is asked of the rest, and what it gives: z is the number of words that begin with 0.
module _ (s : State) (m i z : ℕ) (pos : 0 < m) (fits : i < length (words_from s m))
    (is : z ≡ length (words_from (step s false) (m - 1))) where
  up : suc (m - 1) ≡ m
  up = omega arith

  zeros : count (step s false) (m - 1) ≡ z
  zeros = sym (is ∙ long (step s false) (m - 1))

  pub rest_fits : z ≤ i → i - z < length (words_from (step s true) (m - 1))
  rest_fits h = omega (arith, long s m, ap (count s) up, count_suc s (m - 1), zeros, long (step s true) (m - 1))

  pub first_0 : i < z → number_at (step s false) (m - 1) i ≡ number_at s m i
  first_0 h =
      number_at_is (step s false) (m - 1) i (omega arith) ∙ sym (after_0 s (m - 1) i (omega (arith, zeros)))
      ∙ ap (λ v. word_number s v i) up ∙ sym (number_at_is s m i fits)

  pub first_1 : z ≤ i → 2 ^ (m - 1) + number_at (step s true) (m - 1) (i - z) ≡ number_at s m i
  first_1 h =
      ap (λ v. 2 ^ (m - 1) + v) (number_at_is (step s true) (m - 1) (i - z) (rest_fits h))
      ∙ ap (λ v. 2 ^ (m - 1) + word_number (step s true) (m - 1) (i - v)) (sym zeros)
      ∙ sym (after_1 s (m - 1) i (omega (arith, zeros))) ∙ ap (λ v. word_number s v i) up ∙ sym (number_at_is s m i fits)

-- No word of 1 letter leads from (1,0), of none or 1 from (1,1), of none from (0,1).
pub from10_two : (m i : ℕ) → 1 ≤ m → i < length (words_from s10 m) → 2 ≤ m
from10_two zero i h l = absurd (omega arith)
from10_two (suc zero) i h l = absurd (omega (arith, rw long at l))
from10_two (suc (suc m)) i h l = omega arith

pub from11_two : (m i : ℕ) → i < length (words_from s11 m) → 2 ≤ m
from11_two zero i l = absurd (omega (arith, rw long at l))
from11_two (suc zero) i l = absurd (omega (arith, rw long at l))
from11_two (suc (suc m)) i l = omega arith

pub from01_one : (m i : ℕ) → i < length (words_from s01 m) → 1 ≤ m
from01_one zero i l = absurd (omega (arith, rw long at l))
from01_one (suc m) i l = omega arith
