-- Sets as numbers: a bit is 1 where a number was met, so a set of numbers below m is full, 2^m - 1, where each was met at least once. Of a
-- line that is exactly once, by counting in two ways.
use Prim.Native.Nat.{ℕ, zero, suc, ◌+◌, ◌-◌, ◌*◌, ◌/◌, ◌%◌, ◌^◌, ◌<◌}
use native.Mathlib.Nat.{le_refl, pow-suc, one-mul, zero-div, div-eq_of_lt, add-zero}
use native.Mathlib.Decide.{dec_lt, ℕ_discrete}
use native.Mathlib.Omega.{arith}
use mathlib.Core.Path.{◌≡◌, refl, sym, ap, ap₂, ◌∙◌}
use mathlib.Core.Bool.{Bool, true, false, cond, ◌&&◌}
use lib.Bits.{bit_or, or_lt, or_zero_r}
use lib.Dec.{leb, eqb}
use lib.Pow.{pow_pos, pow-lt, ones_split, ones_lt, high}
use borrow.Author.Tests.{leb-true, eqb-true, le-leb, eq-eqb, ne_eqb}
use Rattle.poly.specs.Code.{digit}
use Rattle.squares.proofs.Middle
use Rattle.squares.proofs.Places.{digit_or, digit_shl_high, digit_shl_low}
use Rattle.sheets.specs.Counting.{count_below, all_below, is_permutation}
use Rattle.sheets.specs.Inner.{met_below}
use Rattle.sheets.proofs.Below.{same_truth, all_at, all_true}
use Rattle.sheets.proofs.TwoWays.{flag, line_once, pairs_once}

-- the one bit of a power of two
power_bit : (x v : ℕ) → digit 2 (2 ^ x) v ≡ flag (eqb x v)
power_bit x v = ap (λ (a : ℕ). digit 2 a v) (sym (one-mul (2 ^ x))) ∙ go (dec_lt v x) (ℕ_discrete x v)
  where
    go : Dec (v < x) → Dec (x ≡ v) → digit 2 (1 * 2 ^ x) v ≡ flag (eqb x v)
    go (yes l) e = digit_shl_low 1 x v l ∙ ap flag (sym (ne_eqb x v (λ e. omega arith)))
    go (no l) (yes e) =
        let none : v - x ≡ 0 = omega arith in
        digit_shl_high 1 x v (omega arith) ∙ rw (none, eq-eqb x v e)
    go (no l) (no n) =
        let above : 0 < v - x = omega (arith, n) in
        digit_shl_high 1 x v (omega arith) ∙ rw (div-eq_of_lt (pow-lt above), ne_eqb x v n)

-- one number more
join : (C : ℕ) (b : Bool) → bit_or (flag (leb 1 C)) (flag b) ≡ flag (leb 1 (C + flag b))
join C false = or_zero_r (flag (leb 1 C)) ∙ ap (λ (c : ℕ). flag (leb 1 c)) (sym (add-zero C))
join C true = go (leb 1 C) ∙ ap flag (sym (le-leb 1 (C + 1) (omega arith)))
  where
    go : (t : Bool) → bit_or (flag t) 1 ≡ 1
    go true = refl
    go false = refl

module _ (test : ℕ → Bool) (h : ℕ → ℕ) where
  -- bit v tells whether v was met
  met_bit : (k v : ℕ) → digit 2 (met_below k test h) v ≡ flag (leb 1 (count_below k (λ i. test i && eqb (h i) v)))
  met_bit zero v = ap (λ (a : ℕ). a % 2) (zero-div (2 ^ v))
  met_bit (suc k) v = go (test k) (met_bit k v)
    where
      met : ℕ
      met = met_below k test h

      times : ℕ
      times = count_below k (λ i. test i && eqb (h i) v)

      go : (b : Bool) → digit 2 met v ≡ flag (leb 1 times)
          → digit 2 (cond b (bit_or met (2 ^ h k)) met) v ≡ flag (leb 1 (times + flag (b && eqb (h k) v)))
      go true ih = digit_or met (2 ^ h k) v ∙ ap₂ bit_or ih (power_bit (h k) v) ∙ join times (eqb (h k) v)
      go false ih = ih ∙ ap (λ (c : ℕ). flag (leb 1 c)) (sym (add-zero times))

  met_lt : (k m : ℕ) → ((i : ℕ) → i < k → h i < m) → met_below k test h < 2 ^ m
  met_lt zero m below = pow_pos m
  met_lt (suc k) m below = go (test k) (met_lt k m (λ i l. below i (omega arith)))
    where
      go : (b : Bool) → met_below k test h < 2 ^ m → cond b (bit_or (met_below k test h) (2 ^ h k)) (met_below k test h) < 2 ^ m
      go true ih = or_lt m (met_below k test h) (2 ^ h k) ih (pow-lt (below k (omega arith)))
      go false ih = ih

-- all bits below m are 1 in 2^m - 1, and in no other number below 2^m
ones_bit : (m v : ℕ) → v < m → digit 2 (2 ^ m - 1) v ≡ 1
ones_bit m v l =
    let k : ℕ = m - suc v in
    let whole : m ≡ suc k + v = omega arith in
    ap (λ (j : ℕ). digit 2 (2 ^ j - 1) v) whole ∙ rw (ones_split (suc k) v, high (2 ^ suc k - 1) v (ones_lt v)) (odd k)
  where
    odd : (k : ℕ) → (2 ^ suc k - 1) % 2 ≡ 1
    odd k = omega (arith, pow-suc 2 k, pow_pos k)

bits_full : (m s : ℕ) → s < 2 ^ m → ((v : ℕ) → v < m → digit 2 s v ≡ 1) → s ≡ 2 ^ m - 1
bits_full zero s l bits = omega arith
bits_full (suc m) s l bits =
    let rest : s / 2 ≡ 2 ^ m - 1 =
    bits_full m (s / 2) (omega (arith, pow-suc 2 m)) (λ v h. sym (Middle.digit_rest 2 (le_refl 2) s v) ∙ bits (suc v) (omega arith)) in
    let lowest : s % 2 ≡ 1 = sym (Middle.digit_lowest 2 (le_refl 2) s) ∙ bits 0 (omega arith) in
    omega (arith, pow-suc 2 m, pow_pos m)

flag_one : (b : Bool) → eqb (flag b) 1 ≡ b
flag_one true = refl
flag_one false = refl

-- A set of numbers below m is full exactly where each of them was met.
pub met_full : (test : ℕ → Bool) (h : ℕ → ℕ) (k m : ℕ) → ((i : ℕ) → i < k → h i < m)
    → eqb (met_below k test h) (2 ^ m - 1) ≡ all_below m (λ v. leb 1 (count_below k (λ i. test i && eqb (h i) v)))
met_full test h k m below =
    same_truth _ _
    (λ e. all_true tried m
    (λ v l. sym (flag_one (tried v)) ∙ eq-eqb (flag (tried v)) 1
    (sym (met_bit test h k v) ∙ ap (λ (s : ℕ). digit 2 s v) (eqb-true met (2 ^ m - 1) e) ∙ ones_bit m v l)))
    (λ e. eq-eqb met (2 ^ m - 1)
    (bits_full m met (met_lt test h k m below) (λ v l. met_bit test h k v ∙ ap flag (all_at tried m e v l))))
  where
    met : ℕ
    met = met_below k test h

    tried : ℕ → Bool
    tried v = leb 1 (count_below k (λ i. test i && eqb (h i) v))

-- N symbols of which none below N is missing are a permutation.
pub some_once : (N : ℕ) (h : ℕ → ℕ) → all_below N (λ v. leb 1 (count_below N (λ i. eqb (h i) v))) ≡ is_permutation N h
some_once N h =
    same_truth _ _
    (λ e. all_true (λ v. eqb (times v) 1) N
    (λ v l. eq-eqb (times v) 1 (line_once N h (λ v l. leb-true 1 (times v) (all_at (λ v. leb 1 (times v)) N e v l)) v l)))
    (λ e. all_true (λ v. leb 1 (times v)) N
    (λ v l. let one : times v ≡ 1 = eqb-true (times v) 1 (all_at (λ v. eqb (times v) 1) N e v l) in le-leb 1 (times v) (omega arith)))
  where
    times : ℕ → ℕ
    times v = count_below N (λ i. eqb (h i) v)

-- N × N sites of which no pair of symbols below N is missing show each pair once.
pub one_site : (N : ℕ) (first second : ℕ → ℕ)
    → let sites : ℕ → ℕ → ℕ = λ a b. count_below (N * N) (λ s. eqb (first s) a && eqb (second s) b) in
    all_below N (λ a. all_below N (λ b. leb 1 (sites a b))) ≡ all_below N (λ a. all_below N (λ b. eqb (sites a b) 1))
one_site N first second =
    same_truth _ _
    (λ e. all_true (λ a. all_below N (one a)) N
    (λ a ha. all_true (one a) N
    (λ b hb. eq-eqb (sites a b) 1
    (pairs_once N first second (λ a b ha hb. leb-true 1 (sites a b) (both_at some e a b ha hb)) a b ha hb))))
    (λ e. all_true (λ a. all_below N (some a)) N
    (λ a ha. all_true (some a) N
    (λ b hb. let is : sites a b ≡ 1 = eqb-true (sites a b) 1 (both_at one e a b ha hb) in le-leb 1 (sites a b) (omega arith))))
  where
    sites : ℕ → ℕ → ℕ
    sites a b = count_below (N * N) (λ s. eqb (first s) a && eqb (second s) b)

    some : ℕ → ℕ → Bool
    some a b = leb 1 (sites a b)

    one : ℕ → ℕ → Bool
    one a b = eqb (sites a b) 1

    both_at : (test : ℕ → ℕ → Bool) → all_below N (λ a. all_below N (test a)) ≡ true → (a b : ℕ) → a < N → b < N → test a b ≡ true
    both_at test e a b ha hb = all_at (test a) N (all_at (λ a. all_below N (test a)) N e a ha) b hb

-- A line of symbols below N whose set is full.
pub line_full : (N : ℕ) (h : ℕ → ℕ) {k set : ℕ} → set ≡ met_below k (λ i. true) h → k ≡ N → ((i : ℕ) → i < N → h i < N)
    → eqb set (2 ^ N - 1) ≡ is_permutation N h
line_full N h {k} {set} is all below =
    ap (λ (s : ℕ). eqb s (2 ^ N - 1)) (is ∙ ap (λ (j : ℕ). met_below j (λ i. true) h) all)
    ∙ met_full (λ i. true) h N N below ∙ some_once N h
