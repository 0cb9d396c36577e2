-- Tests of all numbers below k, and how many of them pass: by recursion on k, the last number first.
use Prim.Native.Nat.{ℕ, zero, suc, ◌+◌, ◌≤◌, ◌<◌}
use native.Mathlib.Nat.{eq-or-lt_of_le, le_of_suc-le-suc}
use native.Mathlib.Numerals.{add-one}
use native.Mathlib.Omega.{arith}
use mathlib.Core.Logic.{◌⊎◌, inl, inr}
use mathlib.Core.Path.{◌≡◌, refl, sym, ap, ap₂, ◌∙◌}
use mathlib.Core.Bool.{Bool, true, false, cond, ◌&&◌, and-false, and-true, true≢false}
use Rattle.sheets.specs.Counting.{count_below, all_below}

-- two tests that pass together are equal
pub same_truth : (a b : Bool) → (a ≡ true → b ≡ true) → (b ≡ true → a ≡ true) → a ≡ b
same_truth true b f g = sym (f refl)
same_truth false true f g = g refl
same_truth false false f g = refl

pub both_true : (a b : Bool) → (a && b) ≡ true → (a ≡ true) × (b ≡ true)
both_true true b e = (refl, e)
both_true false b e = absurd (true≢false (sym e))

-- the last number, or one below it
pub last_or : {i k : ℕ} {A : Type 0} → i < suc k → (i ≡ k → A) → (i < k → A) → A
last_or {i} {k} {A} h last before = go (eq-or-lt_of_le (le_of_suc-le-suc h))
  where
    go : (i ≡ k) ⊎ (i < k) → A
    go (inl e) = last e
    go (inr l) = before l

module _ (test : ℕ → Bool) where
  pub all_at : (k : ℕ) → all_below k test ≡ true → (i : ℕ) → i < k → test i ≡ true
  all_at zero e i h = absurd (omega arith)
  all_at (suc k) e i h =
      let (before, last) = both_true (all_below k test) (test k) e in
      last_or h (λ (same : i ≡ k). ap test same ∙ last) (λ (l : i < k). all_at k before i l)

  pub all_true : (k : ℕ) → ((i : ℕ) → i < k → test i ≡ true) → all_below k test ≡ true
  all_true zero each = refl
  all_true (suc k) each = ap₂ ◌&&◌ (all_true k (λ i h. each i (omega arith))) (each k (omega arith))

  pub all_fails : (k i : ℕ) → i < k → test i ≡ false → all_below k test ≡ false
  all_fails zero i h e = absurd (omega arith)
  all_fails (suc k) i h e =
      last_or h (λ (same : i ≡ k). ap (λ b. all_below k test && b) (sym (ap test same) ∙ e) ∙ and-false (all_below k test))
      (λ (l : i < k). ap (λ b. b && test k) (all_fails k i l e))

  -- what is known of the numbers below k, and then of the next one
  pub all_next : (k : ℕ) {good : Bool} → good ≡ all_below k test → test k ≡ true → good ≡ all_below (k + 1) test
  all_next k e t = rw (add-one k, t, and-true) e

  pub none_next : (k : ℕ) → test k ≡ false → false ≡ all_below (k + 1) test
  none_next k t = sym (all_fails (k + 1) k (omega arith) t)

module _ (test other : ℕ → Bool) where
  pub all_same : (k : ℕ) → ((i : ℕ) → i < k → test i ≡ other i) → all_below k test ≡ all_below k other
  all_same zero same = refl
  all_same (suc k) same = ap₂ ◌&&◌ (all_same k (λ i h. same i (omega arith))) (same k (omega arith))

  pub count_same : (k : ℕ) → ((i : ℕ) → i < k → test i ≡ other i) → count_below k test ≡ count_below k other
  count_same zero same = refl
  count_same (suc k) same =
      ap₂ (λ (c : ℕ) (b : Bool). c + cond b 1 0) (count_same k (λ i h. same i (omega arith))) (same k (omega arith))

  -- both tests of all numbers, together or one after the other
  pub all_both : (k : ℕ) → all_below k (λ i. test i && other i) ≡ (all_below k test && all_below k other)
  all_both k = same_truth _ _
      (λ e. ap₂ ◌&&◌ (all_true test k (λ i h. (both_true (test i) (other i) (all_at (λ i. test i && other i) k e i h)).0))
      (all_true other k (λ i h. (both_true (test i) (other i) (all_at (λ i. test i && other i) k e i h)).1)))
      (λ e. let (first, second) = both_true (all_below k test) (all_below k other) e in
      all_true (λ i. test i && other i) k (λ i h. ap₂ ◌&&◌ (all_at test k first i h) (all_at other k second i h)))

one_at_most : (b : Bool) → cond b 1 0 ≤ 1
one_at_most true = omega arith
one_at_most false = omega arith

module _ (test : ℕ → Bool) where
  pub count_le : (k : ℕ) → count_below k test ≤ k
  count_le zero = omega arith
  count_le (suc k) = omega (arith, count_le k, one_at_most (test k))

  -- where all are counted, all pass
  pub count_full : (k : ℕ) → count_below k test ≡ k → (i : ℕ) → i < k → test i ≡ true
  count_full zero e i h = absurd (omega arith)
  count_full (suc k) e i h = go (test k) refl (count_le k) (λ (l : i < k) (full : count_below k test ≡ k). count_full k full i l)
    where
      go : (b : Bool) → test k ≡ b → count_below k test ≤ k → (i < k → count_below k test ≡ k → test i ≡ true) → test i ≡ true
      go true t le before =
          let s : count_below k test + 1 ≡ suc k = rw t at e in
          last_or h (λ (same : i ≡ k). ap test same ∙ t) (λ (l : i < k). before l (omega arith))
      go false t le before =
          let s : count_below k test + 0 ≡ suc k = rw t at e in
          absurd (omega arith)

  -- one that passes is counted
  pub count_some : (k i : ℕ) → i < k → test i ≡ true → 1 ≤ count_below k test
  count_some zero i h e = absurd (omega arith)
  count_some (suc k) i h e =
      last_or h (λ (same : i ≡ k). let t : test k ≡ true = sym (ap test same) ∙ e in rw t (omega arith))
      (λ (l : i < k). omega (arith, count_some k i l e))

  -- where some are counted, one passes
  pub count_exists : (k : ℕ) → 1 ≤ count_below k test → (i : ℕ) × (i < k) × (test i ≡ true)
  count_exists zero some = absurd (omega arith)
  count_exists (suc k) some = go (test k) refl (count_exists k)
    where
      go : (b : Bool) → test k ≡ b → (1 ≤ count_below k test → (i : ℕ) × (i < k) × (test i ≡ true))
          → (i : ℕ) × (i < suc k) × (test i ≡ true)
      go true t before = (k, omega arith, t)
      go false t before =
          let less : 1 ≤ count_below k test + 0 = rw t at some in
          let (i, l, e) = before (omega arith) in
          (i, omega arith, e)

  -- where none passes, none is counted
  pub count_none : (k : ℕ) → ((i : ℕ) → i < k → test i ≡ false) → count_below k test ≡ 0
  count_none zero none = refl
  count_none (suc k) none = rw (count_none k (λ i h. none i (omega arith)), none k (omega arith))
