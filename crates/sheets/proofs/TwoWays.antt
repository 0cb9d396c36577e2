-- Counting in two ways. The counts of the values below m, summed, are how many numbers have a value below m. There are N numbers in a line,
-- and N × N sites: so if no value, or no pair of values, is missing, the sum leaves each of them just one.
use Prim.Native.Nat.{ℕ, zero, suc, ◌+◌, ◌*◌, ◌≤◌, ◌<◌}
use native.Mathlib.Nat.{suc-mul, zero-mul, mul-zero, zero-add}
use native.Mathlib.Omega.{arith}
use mathlib.Core.Path.{◌≡◌, refl, sym, ap, ap₂, ◌∙◌}
use mathlib.Core.Bool.{Bool, true, false, cond, ◌&&◌, and_comm}
use lib.Dec.{ltb, eqb, leb-suc-zero, leb-suc-suc, eqb-zero-suc, eqb-suc-zero, eqb-suc-suc}
use borrow.Author.Tests.{ltb-true, lt-ltb}
use Rattle.squares.specs.Symbols.{sum_below}
use Rattle.sheets.specs.Counting.{count_below}
use Rattle.sheets.proofs.Below.{count_same, count_le, count_full}

abbrev pub flag : Bool → ℕ
flag b = cond b 1 0

sum_same : (m : ℕ) (a b : ℕ → ℕ) → ((v : ℕ) → v < m → a v ≡ b v) → sum_below m a ≡ sum_below m b
sum_same zero a b same = refl
sum_same (suc m) a b same =
    ap₂ ◌+◌ (same 0 (omega arith)) (sum_same m (λ j. a (suc j)) (λ j. b (suc j)) (λ j h. same (suc j) (omega arith)))

sum_add : (m : ℕ) (a b : ℕ → ℕ) → sum_below m (λ v. a v + b v) ≡ sum_below m a + sum_below m b
sum_add zero a b = refl
sum_add (suc m) a b = let ih : _ = sum_add m (λ j. a (suc j)) (λ j. b (suc j)) in omega arith

sum_constant : (m c : ℕ) → sum_below m (λ v. c) ≡ m * c
sum_constant zero c = sym (zero-mul c)
sum_constant (suc m) c = let ih : _ = sum_constant m c in omega (arith, suc-mul m c)

-- x is one of the values below m, or none of them
sum_is : (m x : ℕ) → sum_below m (λ v. flag (eqb x v)) ≡ flag (ltb x m)
sum_is zero x = ap flag (sym (leb-suc-zero x))
sum_is (suc m) zero =
    let none : sum_below m (λ j. flag (eqb zero (suc j))) ≡ m * 0 =
    sum_same m (λ j. flag (eqb zero (suc j))) (λ j. 0) (λ j h. ap flag (eqb-zero-suc j)) ∙ sum_constant m 0 in
    rw (none, lt-ltb 0 (suc m) (omega arith)) (omega arith)
sum_is (suc m) (suc x) =
    let later : sum_below m (λ j. flag (eqb (suc x) (suc j))) ≡ flag (ltb x m) =
    sum_same m (λ j. flag (eqb (suc x) (suc j))) (λ j. flag (eqb x j)) (λ j h. ap flag (eqb-suc-suc x j)) ∙ sum_is m x in
    rw (eqb-suc-zero x, later, leb-suc-suc (suc x) m) (zero-add (flag (ltb x m)))

-- The counts of all values below m, of those numbers that pass a test.
sum_counts : (m k : ℕ) (test : ℕ → Bool) (h : ℕ → ℕ)
    → sum_below m (λ v. count_below k (λ i. test i && eqb (h i) v)) ≡ count_below k (λ i. test i && ltb (h i) m)
sum_counts m zero test h = sum_constant m 0 ∙ mul-zero m
sum_counts m (suc k) test h =
    sum_add m (λ v. count_below k (λ i. test i && eqb (h i) v)) (λ v. flag (test k && eqb (h k) v))
    ∙ ap₂ ◌+◌ (sum_counts m k test h) (last (test k))
  where
    last : (b : Bool) → sum_below m (λ v. flag (b && eqb (h k) v)) ≡ flag (b && ltb (h k) m)
    last true = sum_is m (h k)
    last false = sum_constant m 0 ∙ mul-zero m

-- m numbers, none below w, with a sum of at most m × w, are all w.
module _ (w : ℕ) where
  sum_least : (m : ℕ) (c : ℕ → ℕ) → ((v : ℕ) → v < m → w ≤ c v) → m * w ≤ sum_below m c
  sum_least zero c least = omega (arith, zero-mul w)
  sum_least (suc m) c least =
      let ih : _ = sum_least m (λ j. c (suc j)) (λ j h. least (suc j) (omega arith)) in
      omega (arith, suc-mul m w, least 0 (omega arith))

  all_least : (m : ℕ) (c : ℕ → ℕ) → ((v : ℕ) → v < m → w ≤ c v) → sum_below m c ≤ m * w → (v : ℕ) → v < m → c v ≡ w
  all_least zero c least most v h = absurd (omega arith)
  all_least (suc m) c least most zero h =
      omega (arith, suc-mul m w, least 0 (omega arith), sum_least m (λ j. c (suc j)) (λ j h. least (suc j) (omega arith)))
  all_least (suc m) c least most (suc v) h =
      all_least m (λ j. c (suc j)) (λ j h. least (suc j) (omega arith)) (omega (arith, suc-mul m w, least 0 (omega arith))) v (omega arith)

module _ (N : ℕ) (h : ℕ → ℕ) where
  -- how many of h 0, .., h (N - 1) are v
  abbrev times : ℕ → ℕ
  times v = count_below N (λ i. eqb (h i) v)

  -- no value below N is missing: each comes up once
  pub line_once : ((v : ℕ) → v < N → 1 ≤ times v) → (v : ℕ) → v < N → times v ≡ 1
  line_once some =
      let total : sum_below N times ≡ count_below N (λ i. ltb (h i) N) = sum_counts N N (λ i. true) h in
      all_least 1 N times some (omega (arith, total, count_le (λ i. ltb (h i) N) N))

  -- each value below N comes up once: there is no other
  pub line_below : ((v : ℕ) → v < N → times v ≡ 1) → (i : ℕ) → i < N → h i < N
  line_below once i l =
      let total : sum_below N times ≡ count_below N (λ i. ltb (h i) N) = sum_counts N N (λ i. true) h in
      let ones : sum_below N times ≡ N * 1 = sum_same N times (λ v. 1) once ∙ sum_constant N 1 in
      ltb-true (h i) N (count_full (λ i. ltb (h i) N) N (omega arith) i l)

module _ (N : ℕ) (first second : ℕ → ℕ) where
  -- how many of the N × N sites show the pair (a, b)
  abbrev sites : ℕ → ℕ → ℕ
  sites a b = count_below (N * N) (λ s. eqb (first s) a && eqb (second s) b)

  -- and how many of them show (a, b) with any b below N
  abbrev with_first : ℕ → ℕ
  with_first a = sum_below N (sites a)

  -- no pair of values below N is missing: each has one site
  pub pairs_once : ((a b : ℕ) → a < N → b < N → 1 ≤ sites a b) → (a b : ℕ) → a < N → b < N → sites a b ≡ 1
  pairs_once some a b ha hb = all_least 1 N (sites a) (λ b hb. some a b ha hb) (omega (arith, row a ha)) b hb
    where
      least : (a : ℕ) → a < N → N ≤ with_first a
      least a ha = omega (arith, sum_least 1 N (sites a) (λ b hb. some a b ha hb))

      total : sum_below N with_first ≡ count_below (N * N) (λ s. ltb (second s) N && ltb (first s) N)
      total =
          sum_same N with_first (λ a. count_below (N * N) (λ s. ltb (second s) N && eqb (first s) a))
          (λ a ha. sum_counts N (N * N) (λ s. eqb (first s) a) second
          ∙ count_same (λ s. eqb (first s) a && ltb (second s) N) (λ s. ltb (second s) N && eqb (first s) a) (N * N)
          (λ s hs. and_comm (eqb (first s) a) (ltb (second s) N)))
          ∙ sum_counts N (N * N) (λ s. ltb (second s) N) first

      row : (a : ℕ) → a < N → with_first a ≡ N
      row a ha = all_least N N with_first least
          (omega (arith, total, count_le (λ s. ltb (second s) N && ltb (first s) N) (N * N))) a ha
