-- Places and ranks: what stands in a list at r has the rank r, and what has it stands there, for words, compositions and sequences. The
-- word readers go on by letter 0, where the place is that of the rest, or by letter 1, behind the words that begin with 0.
use Prim.Native.Nat.{ℕ, zero, suc, ◌+◌, ◌-◌, ◌/◌, ◌%◌, ◌^◌, ◌≤◌, ◌<◌}
use native.Mathlib.Nat.{pow-suc, le_trans, lt_of_lt_of_le}
use native.Mathlib.Numerals.{sub-one}
use native.Mathlib.Omega.{arith}
use mathlib.Core.Path.{◌≡◌, refl, sym, ap, subst, ◌∙◌}
use mathlib.Core.Bool.{Bool, true, false}
use mathlib.Core.List.{List, [], ◌∷◌, ◌++◌, reverse, reverse-cons}
use lib.ListN.{length, get_or}
use lib.Pow.{pow_mono}
use borrow.Author.Tests.{eq-eqb, ne_eqb}
use Rattle.pairs.specs.Counts.{sum}
use Rattle.pairs.specs.Words.{State, s10, s11, s01, step, leads, words_from}
use Rattle.pairs.specs.Sequences.{compositions, sequences}
use Rattle.positions.specs.Ranking.{StandsAt, Among, last_letters, backwards}
use Rattle.pairs.proofs.Valid.{EachPositive, Valid}
use Rattle.pairs.proofs.Words.{count, count_suc, length_words, listed_words_from}
use Rattle.pairs.proofs.Words.{word_rank, word_rank_lt, word_at_known, word_at_rank, WordAt}
use Rattle.pairs.proofs.Compositions.{
  parts,
  composition_rank,
  listed_compositions,
  composition_at_known,
  composition_rank_lt,
  composition_at_rank,
}
use Rattle.pairs.proofs.Blocks.{length_le}
use Rattle.pairs.proofs.Sequences.{sequence_rank, sequence_rank_lt, sequence_at_is, sequence_at_rank, sequence_at_known, sequences_valid}

-- ---- words
words_le : (s : State) (m : ℕ) → length (words_from s m) ≤ 2 ^ m
words_le s m = rw length_words (le s m)
  where
    le : (s : State) (m : ℕ) → count s m ≤ 2 ^ m
    le s10 zero = omega arith
    le s11 zero = omega arith
    le s01 zero = omega arith
    le s (suc m) = omega (arith, count_suc s m, le (step s false) m, le (step s true) m, pow-suc 2 m)

word_known : (s : State) (m r : ℕ) (w : List Bool) → StandsAt (words_from s m) r w → WordAt s m r w
word_known s m r w k =
    let lt : r < count s m = rw length_words at k.below in
    rw (sym ((listed_words_from s m).stands r lt) ∙ k.is) at (word_at_known s m r lt)

word_stands : (s : State) (m r : ℕ) (w : List Bool) → WordAt s m r w → StandsAt (words_from s m) r w
word_stands s m r w k =
    let lt : r < count s m = rw (k.long, k.rank) at (word_rank_lt s w k.ends) in
    record {
      below = rw length_words lt;
      is = (listed_words_from s m).stands r lt ∙ rw (k.long, k.rank) at (word_at_rank s w k.ends);
    }

pub word_rank_lem : (s : State) (m r : ℕ) (w : List Bool) → StandsAt (words_from s m) r w → word_rank s w ≡ r
word_rank_lem s m r w k = (word_known s m r w k).rank

pub length_digits : (m x : ℕ) → length (last_letters m x) ≡ m
length_digits zero x = refl
length_digits (suc m) x = ap suc (length_digits m x)

-- Where a word leads there, there is one.
pub word_below : (s : State) (m x : ℕ) → leads s (last_letters m x) ≡ true → word_rank s (last_letters m x) < length (words_from s m)
word_below s m x k = rw length_words (rw (length_digits m x) at (word_rank_lt s (last_letters m x) k))

-- A reader at a number's first letter.
module _ (s : State) (m x : ℕ) where
  module _ (letter : x / 2 ^ m % 2 ≡ 0) where
    digits_zero : last_letters (suc m) x ≡ false ∷ last_letters m x
    digits_zero = ap (λ l. l ∷ last_letters m x) (ne_eqb (x / 2 ^ m % 2) 1 (λ e. omega arith))

    leads_zero : leads s (last_letters (suc m) x) ≡ true → leads (step s false) (last_letters m x) ≡ true
    leads_zero k = rw digits_zero at k

    stands_zero : (r : ℕ) → StandsAt (words_from (step s false) m) r (last_letters m x)
        → StandsAt (words_from s (suc m)) r (last_letters (suc m) x)
    stands_zero r k = rw digits_zero (word_stands s (suc m) r _ (go (word_known (step s false) m r (last_letters m x) k)))
      where
        go : WordAt (step s false) m r (last_letters m x) → WordAt s (suc m) r (false ∷ last_letters m x)
        go w = record { long = ap suc w.long; ends = w.ends; rank = w.rank }

  module _ (letter : x / 2 ^ m % 2 ≡ 0 → ⊥) where
    digits_one : last_letters (suc m) x ≡ true ∷ last_letters m x
    digits_one = ap (λ l. l ∷ last_letters m x) (eq-eqb (x / 2 ^ m % 2) 1 (omega arith))

    leads_one : leads s (last_letters (suc m) x) ≡ true → leads (step s true) (last_letters m x) ≡ true
    leads_one k = rw digits_one at k

    stands_one : (r : ℕ) → StandsAt (words_from (step s true) m) r (last_letters m x)
        → StandsAt (words_from s (suc m)) (length (words_from (step s false) m) + r) (last_letters (suc m) x)
    stands_one r k = rw (digits_one, length_words) (word_stands s (suc m) _ _ (go (word_known (step s true) m r (last_letters m x) k)))
      where
        go : WordAt (step s true) m r (last_letters m x) → WordAt s (suc m) (count (step s false) m + r) (true ∷ last_letters m x)
        go w = record { long = ap suc w.long; ends = w.ends; rank = rw (w.long, w.rank) }

-- The same for m letters, as code counts them: m - 1 are left.
module _ (s : State) (m x : ℕ) (some : m ≡ 0 → ⊥) where
  up : suc (m - 1) ≡ m
  up = omega arith

  pub reads_zero : x / 2 ^ (m - 1) % 2 ≡ 0 → leads s (last_letters m x) ≡ true → leads (step s false) (last_letters (m - 1) x) ≡ true
  reads_zero e k = leads_zero s (m - 1) x e (subst (λ (v : ℕ). leads s (last_letters v x) ≡ true) (sym up) k)

  pub reads_one : (x / 2 ^ (m - 1) % 2 ≡ 0 → ⊥) → leads s (last_letters m x) ≡ true → leads (step s true) (last_letters (m - 1) x) ≡ true
  reads_one e k = leads_one s (m - 1) x e (subst (λ (v : ℕ). leads s (last_letters v x) ≡ true) (sym up) k)

  pub ranks_zero : {r : ℕ} → x / 2 ^ (m - 1) % 2 ≡ 0 → StandsAt (words_from (step s false) (m - 1)) r (last_letters (m - 1) x)
      → StandsAt (words_from s m) r (last_letters m x)
  ranks_zero {r} e k = subst (λ (v : ℕ). StandsAt (words_from s v) r (last_letters v x)) up (stands_zero s (m - 1) x e r k)

  pub ranks_one : {n r : ℕ} → (x / 2 ^ (m - 1) % 2 ≡ 0 → ⊥) → n ≡ length (words_from (step s false) (m - 1))
      → StandsAt (words_from (step s true) (m - 1)) r (last_letters (m - 1) x) → StandsAt (words_from s m) (n + r) (last_letters m x)
  ranks_one {n} {r} e is k =
      rw is (subst (λ (v : ℕ). StandsAt (words_from s v) (length (words_from (step s false) (m - 1)) + r) (last_letters v x)) up
      (stands_one s (m - 1) x e r k))

-- No letters are left.
pub ranks_none : (s : State) (m x : ℕ) → m ≡ 0 → leads s (last_letters m x) ≡ true → StandsAt (words_from s m) 0 (last_letters m x)
ranks_none s m x e k = rw e (word_stands s 0 0 [] (record { long = refl; ends = rw e at k; rank = refl }))

-- A place among at most 31 letters' words fits a register.
pub word_place_lt : (s : State) (m r : ℕ) (w : List Bool) → m < 32 → StandsAt (words_from s m) r w → r < 2 ^ 31
word_place_lt s m r w h k = lt_of_lt_of_le k.below (le_trans (words_le s m) (pow_mono {i = m} {j = 31} (omega arith)))

-- ---- compositions
pub composition_rank_lem : (n k r : ℕ) (ds : List ℕ) → StandsAt (compositions n k) r ds → composition_rank n ds ≡ r
composition_rank_lem n k r ds s =
    let lt : r < parts n k = rw (listed_compositions n k).long at s.below in
    rw (sym ((listed_compositions n k).stands r lt) ∙ s.is) at (composition_at_known n k r lt).rank

pub composition_stands : (n : ℕ) (ds : List ℕ) → EachPositive ds → sum ds ≡ n
    → StandsAt (compositions n (length ds)) (composition_rank n ds) ds
composition_stands n ds p e =
    let lt : composition_rank n ds < parts n (length ds) = composition_rank_lt n ds p e in
    record {
      below = rw (listed_compositions n (length ds)).long lt;
      is = (listed_compositions n (length ds)).stands (composition_rank n ds) lt ∙ composition_at_rank n ds p e;
    }

-- ---- sequences
pub among_valid : (n : ℕ) (qs : List ℕ) → Among (sequences n) qs → Valid n qs
among_valid n qs (r, s) = rw s.is at (sequences_valid n r s.below)

pub sequence_stands : (n : ℕ) (qs : List ℕ) → Valid n qs → StandsAt (sequences n) (sequence_rank n qs) qs
sequence_stands n qs v = record {
  below = sequence_rank_lt n qs v;
  is = sequence_at_is n (sequence_rank n qs) (sequence_rank_lt n qs v) ∙ sequence_at_rank n qs v;
}

pub sequence_rank_lem : (n r : ℕ) (qs : List ℕ) → StandsAt (sequences n) r qs → sequence_rank n qs ≡ r
sequence_rank_lem n r qs s =
    ap (sequence_rank n) (sym s.is ∙ sequence_at_is n r s.below) ∙ (sequence_at_known n r s.below).rank

-- ---- the chain
pub length_backwards : (chain : List ℕ) (k : ℕ) → length (backwards chain k) ≡ k
length_backwards chain zero = refl
length_backwards chain (suc k) = ap suc (length_backwards chain k)

-- How many quotients there are.
pub backwards_count : (n : ℕ) (chain : List ℕ) (k : ℕ) → Valid n (backwards chain k) → (2 ≤ k) × (k ≤ n)
backwards_count n chain k v = (
  rw (length_backwards chain k) at v.several,
  rw (length_backwards chain k) at (length_le n (backwards chain k) v),
)

pub backwards_step : (chain : List ℕ) (k : ℕ) → 0 < k → backwards chain k ≡ get_or chain k 0 ∷ backwards chain (k - 1)
backwards_step chain zero h = absurd (omega arith)
backwards_step chain (suc k) h = rw sub-one

backwards_next : (x y : ℕ) (ys : List ℕ) (i : ℕ) → backwards (x ∷ y ∷ ys) (suc i) ≡ backwards (y ∷ ys) i ++ (y ∷ [])
backwards_next x y ys zero = refl
backwards_next x y ys (suc i) = ap (◌∷◌ (get_or ys i 0)) (backwards_next x y ys i)

pub backwards_reverse : (x : ℕ) (rs rest : List ℕ) → backwards ((x ∷ rs) ++ rest) (length rs) ≡ reverse rs
backwards_reverse x [] rest = refl
backwards_reverse x (y ∷ rs) rest =
    backwards_next x y (rs ++ rest) (length rs) ∙ ap (λ t. t ++ (y ∷ [])) (backwards_reverse y rs rest) ∙ sym (reverse-cons y rs)
