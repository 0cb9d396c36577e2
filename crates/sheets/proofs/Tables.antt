-- Tables of sets, into which pairs (a, b) are put: set number a then has b. Where the sets are full, no pair is missing.
use Prim.Native.Nat.{ℕ, zero, suc, ◌+◌, ◌-◌, ◌^◌, ◌≤◌, ◌<◌}
use native.Mathlib.Nat.{add-suc, add-zero}
use native.Mathlib.Decide.{ℕ_discrete}
use native.Mathlib.Omega.{arith}
use mathlib.Core.Path.{◌≡◌, refl, sym, ap, ◌∙◌}
use mathlib.Core.Bool.{cond, ◌&&◌}
use mathlib.Core.List.{List}
use lib.Bits.{bit_or}
use lib.Dec.{leb, eqb}
use lib.ListN.{length, get_or, replicate, length-set, get_or-replicate}
use lib.Seq.{get_or-set_same, get_or-set_other}
use borrow.Author.Tests.{eq-eqb, ne_eqb}
use Rattle.sheets.specs.Counting.{count_below, all_below}
use Rattle.sheets.specs.Inner.{met_below, all_full, added, pairs_put}
use Rattle.sheets.proofs.Below.{all_same}
use Rattle.sheets.proofs.Sets.{met_full}

-- pairs put one after the other
pub pairs_append : (table : List ℕ) (a b : ℕ) (first second first' second' : ℕ → ℕ)
    → ((i : ℕ) → i < b → first' i ≡ first (a + i)) → ((i : ℕ) → i < b → second' i ≡ second (a + i))
    → pairs_put (pairs_put table a first second) b first' second' ≡ pairs_put table (a + b) first second
pairs_append table a zero first second first' second' fs ss = ap (λ (k : ℕ). pairs_put table k first second) (sym (add-zero a))
pairs_append table a (suc b) first second first' second' fs ss =
    rw (
      fs b (omega arith),
      ss b (omega arith),
      add-suc a b,
      pairs_append table a b first second first' second' (λ i h. fs i (omega arith)) (λ i h. ss i (omega arith)),
    )

module _ (first second : ℕ → ℕ) where
  length_put : (table : List ℕ) (k : ℕ) → length (pairs_put table k first second) ≡ length table
  length_put table zero = refl
  length_put table (suc k) = length-set (pairs_put table k first second) (first k) _ ∙ length_put table k

  -- set number a of a table that was empty before
  put_at : (table : List ℕ) (a k : ℕ) → get_or table a 0 ≡ 0 → ((i : ℕ) → i < k → first i < length table)
      → get_or (pairs_put table k first second) a 0 ≡ met_below k (λ s. eqb (first s) a) second
  put_at table a zero empty inside = empty
  put_at table a (suc k) empty inside =
      go (ℕ_discrete (first k) a) (put_at table a k empty (λ i h. inside i (omega arith)))
    where
      put : List ℕ
      put = pairs_put table k first second

      met : ℕ
      met = met_below k (λ s. eqb (first s) a) second

      go : Dec (first k ≡ a) → get_or put a 0 ≡ met
          → get_or (added put (first k) (2 ^ second k)) a 0 ≡ cond (eqb (first k) a) (bit_or met (2 ^ second k)) met
      go (yes e) ih =
          rw (
            eq-eqb (first k) a e,
            e,
            get_or-set_same put a (bit_or (get_or put a 0) (2 ^ second k)) 0
                (rw (length_put table k, ← e) (inside k (omega arith))),
            ih,
          )
      go (no n) ih =
          let more = bit_or (get_or put (first k) 0) (2 ^ second k) in
          rw (ne_eqb (first k) a n, get_or-set_other put (first k) a more 0 (λ e. n (sym e))) ih

  -- the first sets of a table, empty before k pairs were put, are full exactly where no pair below N is missing
  pub table_some : (N k : ℕ) → N ≤ 64 → ((s : ℕ) → s < k → first s < N) → ((s : ℕ) → s < k → second s < N)
      → all_full N (pairs_put (replicate 64 0) k first second)
      ≡ all_below N (λ a. all_below N (λ b. leb 1 (count_below k (λ s. eqb (first s) a && eqb (second s) b))))
  table_some N k few inside below =
      all_same _ _ N
      (λ a h. ap (λ (s : ℕ). eqb s (2 ^ N - 1))
      (put_at (replicate 64 0) a k (get_or-replicate 64 a 0 0 (omega arith)) (λ s hs. let l : _ = inside s hs in omega arith))
      ∙ met_full (λ s. eqb (first s) a) second k N below)
