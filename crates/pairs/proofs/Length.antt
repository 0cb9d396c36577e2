-- The length of the list is 2 (4^(n-1) - 1)/3. Summed over k, the blocks are a binomial sum, which Pascal's rule turns into a recursion
-- on the gaps: a plus has 2 bits, a comma has 2 letters, each with its next state. Its values by state are solved by induction.
use Prim.Native.Nat.{ℕ, zero, suc, ◌+◌, ◌-◌, ◌*◌, ◌/◌, ◌^◌, ◌<◌}
use native.Mathlib.Nat.{zero-mul, mul-zero, one-mul, add-mul, mul_assoc, mul_left_comm, pow-suc, pow-succ', suc-sub-suc, sub-zero}
use native.Mathlib.Numerals.{sub-one}
use native.Mathlib.Decide.{dec_lt}
use native.Mathlib.Omega.{arith}
use mathlib.Core.Path.{◌≡◌, refl, ap, ◌∙◌}
use mathlib.Core.Bool.{true, false}
use mathlib.Core.List.{map}
use lib.ListN.{length}
use Rattle.loops.specs.Loops.{numbers}
use Rattle.loops.proofs.Loops.{before}
use Rattle.pairs.specs.Counts.{sum, choose}
use Rattle.pairs.specs.Claims.{with_quotients}
use Rattle.pairs.specs.Words.{State, s10, s11, s01, step}
use Rattle.pairs.specs.Sequences.{sequences}
use Rattle.pairs.proofs.Words.{count, listed_words_from}
use Rattle.pairs.proofs.Binomial.{choose_above}
use Rattle.pairs.proofs.Blocks.{block_size}
use Rattle.pairs.proofs.Sequences.{length_sequences}

-- A term of the sum over i of C(n, i) 2^(n-i) f(i).
term : ℕ → (ℕ → ℕ) → ℕ → ℕ
term n f i = choose n i * (2 ^ (n - i) * f i)

-- That sum by Pascal's rule.
abbrev binomial : ℕ → (ℕ → ℕ) → ℕ
binomial zero f = f 0
binomial (suc n) f = 2 * binomial n f + binomial n (λ i. f (suc i))

module _ (f : ℕ → ℕ) where
  term_base : term 0 f 0 ≡ f 0
  unfolding term
  term_base = simp one-mul

  term_first : (n : ℕ) → term (suc n) f 0 ≡ 2 * term n f 0
  unfolding term
  term_first n = simp (one-mul, sub-zero, pow-succ', mul_assoc)

  halve : (n i : ℕ) → choose n (suc i) * (2 ^ (n - i) * f (suc i)) ≡ 2 * (choose n (suc i) * (2 ^ (n - suc i) * f (suc i)))
  halve n i = elim (dec_lt i n) [
    | yes l ↦ let e : n - i ≡ suc (n - suc i) = omega arith in rw (e, pow-succ', mul_assoc, mul_left_comm (choose n (suc i)) 2)
    | no l ↦ simp (choose_above n (suc i) (omega arith), zero-mul)
  ]

  term_next : (n i : ℕ) → term (suc n) f (suc i) ≡ term n (λ i. f (suc i)) i + 2 * term n f (suc i)
  unfolding term
  term_next n i = rw (suc-sub-suc, add-mul) (ap (λ v. choose n i * (2 ^ (n - i) * f (suc i)) + v) (halve n i))

  no_terms : (a m : ℕ) → before (term 0 f) (suc a) m ≡ 0
  unfolding term
  no_terms a zero = refl
  no_terms a (suc m) = omega (arith, zero-mul (2 ^ (0 - suc a) * f (suc a)), no_terms (suc a) m)

before_split : (g h k : ℕ → ℕ) → ((i : ℕ) → g (suc i) ≡ h i + 2 * k (suc i)) → (a m : ℕ)
    → before g (suc a) m ≡ before h a m + 2 * before k (suc a) m
before_split g h k e a zero = refl
before_split g h k e a (suc m) = omega (arith, e a, before_split g h k e (suc a) m)

binomial_sum : (n : ℕ) (f : ℕ → ℕ) (m : ℕ) → n < m → before (term n f) 0 m ≡ binomial n f
binomial_sum zero f zero h = absurd (omega arith)
binomial_sum zero f (suc m) h = omega (arith, term_base f, no_terms f 0 m)
binomial_sum (suc n) f zero h = absurd (omega arith)
binomial_sum (suc n) f (suc m) h =
    omega (
      arith,
      term_first f n,
      before_split (term (suc n) f) (term n (λ i. f (suc i))) (term n f) (term_next f n) 0 m,
      binomial_sum n f (suc m) (omega arith),
      binomial_sum n (λ i. f (suc i)) m (omega arith),
    )

binomial_add : (n : ℕ) (f g : ℕ → ℕ) → binomial n (λ i. f i + g i) ≡ binomial n f + binomial n g
binomial_add zero f g = refl
binomial_add (suc n) f g = omega (arith, binomial_add n f g, binomial_add n (λ i. f (suc i)) (λ i. g (suc i)))

-- The sum for the words from a state.
total : State → ℕ → ℕ
total s n = binomial n (λ i. count s (suc i))

total_suc : (s : State) (n : ℕ) → total s (suc n) ≡ 2 * total s n + (total (step s false) n + total (step s true) n)
unfolding total
total_suc s10 n = ap (λ v. 2 * total s10 n + v) (binomial_add n (λ i. count s01 (suc i)) (λ i. count s11 (suc i)))
total_suc s11 n = ap (λ v. 2 * total s11 n + v) (binomial_add n (λ i. count s11 (suc i)) (λ i. count s01 (suc i)))
total_suc s01 n = ap (λ v. 2 * total s01 n + v) (binomial_add n (λ i. count s10 (suc i)) (λ i. count s10 (suc i)))

record Totals (n : ℕ) : Type 0 where
  at10 : 3 * total s10 n + 2 ≡ 2 * 4 ^ n
  at11 : total s11 n ≡ total s10 n
  at01 : 3 * total s01 n ≡ 2 * 4 ^ n + 4

totals : (n : ℕ) → Totals n
unfolding total
totals zero = record { at10 = refl; at11 = refl; at01 = refl }
totals (suc n) = next (totals n)
  where
    next : Totals n → Totals (suc n)
    next t = omega (arith, total_suc s10 n, total_suc s11 n, total_suc s01 n, pow-suc 4 n)

before_shift : (g h : ℕ → ℕ) → ((i : ℕ) → g (suc i) ≡ h i) → (a m : ℕ) → before g (suc a) m ≡ before h a m
before_shift g h e a zero = refl
before_shift g h e a (suc m) = omega (arith, e a, before_shift g h e (suc a) m)

blocks_sum : (n : ℕ) → before (block_size (suc n)) 2 n ≡ total s10 n
unfolding total block_size term
blocks_sum n =
    before_shift (block_size (suc n)) (term n words_after) same 1 n
    ∙ omega (arith, one_letter, binomial_sum n words_after (suc n) (omega arith))
  where
    words_after : ℕ → ℕ
    words_after i = count s10 (suc i)

    same : (i : ℕ) → block_size (suc n) (suc i) ≡ term n words_after i
    same i = rw suc-sub-suc

    one_letter : term n words_after 0 ≡ 0
    one_letter = simp mul-zero

pub length_tripled : (n : ℕ) → 3 * length (sequences n) ≡ 2 * (4 ^ (n - 1) - 1)
length_tripled zero = ap (λ v. 3 * v) (length_sequences 0)
length_tripled (suc n) = rw (length_sequences, sub-one (suc n), blocks_sum) (omega (arith, (totals n).at10))

pub length_closed : (n : ℕ) → length (sequences n) ≡ 2 * (4 ^ (n - 1) - 1) / 3
length_closed n = omega (arith, length_tripled n)

-- ---- the sum of Lemma 4
summed : (f g : ℕ → ℕ) → ((i : ℕ) → f (suc i) ≡ g (suc i)) → (a m : ℕ) → before f (suc a) m ≡ sum (map g (numbers (suc a) m))
summed f g e a zero = refl
summed f g e a (suc m) = omega (arith, e a, summed f g e (suc a) m)

pub length_summed : (n : ℕ) → length (sequences n) ≡ sum (map (with_quotients n) (numbers 2 (n - 1)))
unfolding block_size
length_summed zero = length_sequences 0
length_summed (suc n) = length_sequences (suc n) ∙ summed (block_size (suc n)) (with_quotients (suc n)) same 1 (suc n - 1)
  where
    same : (i : ℕ) → block_size (suc n) (suc i) ≡ with_quotients (suc n) (suc i)
    same i = rw (sub-one (suc n), sub-one (suc i), (listed_words_from s10 (suc i)).long)
