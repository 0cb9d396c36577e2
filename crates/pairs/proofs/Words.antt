-- Kept words: their number, the word at an index, the index of a word. The words that lead from a state to (1,0) are those that begin
-- with 0, then those that begin with 1, each followed by a word from the next state; all goes by induction on the letters left.
use Prim.Native.Nat.{ℕ, zero, suc, ◌+◌, ◌-◌, ◌*◌, ◌%◌, ◌^◌, ◌≤◌, ◌<◌}
use native.Mathlib.Nat.{pow-suc, add-sub_cancel_left, add-sub_of_le, le_refl}
use native.Mathlib.Decide.{dec_lt}
use native.Mathlib.Omega.{arith}
use mathlib.Core.Path.{◌≡◌, refl, ap}
use mathlib.Core.Bool.{Bool, true, false, cond, false≢true}
use mathlib.Core.List.{List, [], ◌∷◌, ◌++◌, map}
use lib.ListN.{length}
use lib.Dec.{ltb}
use lib.Arith.{lt-one}
use borrow.Author.Tests.{lt-ltb, le-ltb}
use Rattle.loops.proofs.Loops.{filter_append, filter_map, Listed, listed_map, listed_append}
use Rattle.pairs.specs.Words.{State, s10, s11, s01, step, run, is10, words_from, words, tabled}
use Rattle.pairs.specs.Claims.{WordsClaim}

-- How many words of m letters lead from a state to (1,0).
abbrev pub count : State → ℕ → ℕ
count s10 zero = 1
count s11 zero = 0
count s01 zero = 0
count s10 (suc m) = count s01 m + count s11 m
count s11 (suc m) = count s11 m + count s01 m
count s01 (suc m) = count s10 m + count s10 m

-- The word at index i of those of m letters that lead from a state to (1,0): letter 0 if i is below the number of words that follow it.
abbrev pub word_at : State → ℕ → ℕ → List Bool
word_at s zero i = []
word_at s (suc m) i =
    let zeros : ℕ = count (step s false) m in
    let with0 : List Bool = false ∷ word_at (step s false) m i in
    let with1 : List Bool = true ∷ word_at (step s true) m (i - zeros) in
    cond (ltb i zeros) with0 with1

-- The index of a word.
abbrev pub word_rank : State → List Bool → ℕ
word_rank s [] = 0
word_rank s (false ∷ w) = word_rank (step s false) w
word_rank s (true ∷ w) = count (step s false) (length w) + word_rank (step s true) w

pub count_suc : (s : State) (m : ℕ) → count s (suc m) ≡ count (step s false) m + count (step s true) m
count_suc s10 m = refl
count_suc s11 m = refl
count_suc s01 m = refl

pub words_from_suc : (s : State) (m : ℕ)
    → words_from s (suc m) ≡ map (◌∷◌ false) (words_from (step s false) m) ++ map (◌∷◌ true) (words_from (step s true) m)
unfolding words_from
words_from_suc s m = simp (filter_append, filter_map)

pub listed_words_from : (s : State) (m : ℕ) → Listed (words_from s m) (count s m) (word_at s m) []
unfolding words_from
listed_words_from s10 zero = record { long = refl; stands = λ i h. rw (lt-one h) }
listed_words_from s11 zero = record { long = refl; stands = λ i h. refl }
listed_words_from s01 zero = record { long = refl; stands = λ i h. refl }
listed_words_from s (suc m) =
    rw (words_from_suc s m, count_suc)
    (listed_append (listed_map (◌∷◌ false) [] (listed_words_from (step s false) m))
    (listed_map (◌∷◌ true) [] (listed_words_from (step s true) m)))

pub length_words : (s : State) (m : ℕ) → length (words_from s m) ≡ count s m
length_words s m = (listed_words_from s m).long

-- The kept words are those from (1,0).
pub listed_words : (k : ℕ) → Listed (words k) (count s10 k) (word_at s10 k) []
unfolding words_from
listed_words k = listed_words_from s10 k

-- From (1,1) there are as many as from (1,0).
pub count_s11 : (m : ℕ) → count s11 (suc m) ≡ count s10 (suc m)
count_s11 m = omega arith

-- Words of m letters and of one letter more number 2^m together.
pub neighbours : (m : ℕ) → count s10 m + count s10 (suc m) ≡ 2 ^ m
neighbours zero = refl
neighbours (suc m) = omega (arith, neighbours m, pow-suc 2 m)

pub count_closed : (k : ℕ) → 3 * count s10 k + 4 * (k % 2) ≡ 2 ^ k + 2
count_closed zero = refl
count_closed (suc k) = omega (arith, count_closed k, neighbours k, pow-suc 2 k)

-- Document 01's (2^k + 2(-1)^k)/3, where (-1)^k is 1 - 2 (k % 2).
pub words_closed : WordsClaim
words_closed k = rw (listed_words k).long (count_closed k)

pub tabled_is : (k : ℕ) → k < 32 → tabled k ≡ length (words k)
unfolding tabled
tabled_is k h = rw (lt-ltb k 32 h)

-- What the word at index i is known by.
pub record WordAt (s : State) (m i : ℕ) (w : List Bool) : Type 0 where
  pub long : length w ≡ m
  pub ends : is10 (run s w) ≡ true
  pub rank : word_rank s w ≡ i

pub word_at_known : (s : State) (m i : ℕ) → i < count s m → WordAt s m i (word_at s m i)
word_at_known s10 zero i h = record { long = refl; ends = refl; rank = omega arith }
word_at_known s11 zero i h = absurd (omega arith)
word_at_known s01 zero i h = absurd (omega arith)
word_at_known s (suc m) i h = elim (dec_lt i (count (step s false) m)) [
  | yes a ↦ rw (lt-ltb i (count (step s false) m) a) (with0 (word_at_known (step s false) m i a))
  | no b ↦ let a : count (step s false) m ≤ i = omega arith in
      rw (le-ltb i (count (step s false) m) a)
      (with1 a (word_at_known (step s true) m (i - count (step s false) m) (omega (arith, count_suc s m))))
]
  where
    with0 : {w : List Bool} → WordAt (step s false) m i w → WordAt s (suc m) i (false ∷ w)
    with0 k = record { long = ap suc k.long; ends = k.ends; rank = k.rank }

    with1 : {w : List Bool} → count (step s false) m ≤ i → WordAt (step s true) m (i - count (step s false) m) w
        → WordAt s (suc m) i (true ∷ w)
    with1 {w} a k = record { long = ap suc k.long; ends = k.ends; rank = rw (k.long, k.rank) (add-sub_of_le a) }

pub word_rank_lt : (s : State) (w : List Bool) → is10 (run s w) ≡ true → word_rank s w < count s (length w)
word_rank_lt s10 [] k = le_refl 1
word_rank_lt s11 [] k = absurd (false≢true k)
word_rank_lt s01 [] k = absurd (false≢true k)
word_rank_lt s (false ∷ w) k = rw count_suc (let ih : _ = word_rank_lt (step s false) w k in omega arith)
word_rank_lt s (true ∷ w) k = rw count_suc (let ih : _ = word_rank_lt (step s true) w k in omega arith)

pub word_at_rank : (s : State) (w : List Bool) → is10 (run s w) ≡ true → word_at s (length w) (word_rank s w) ≡ w
word_at_rank s [] k = refl
word_at_rank s (false ∷ w) k = rw (lt-ltb _ _ (word_rank_lt (step s false) w k)) (ap (◌∷◌ false) (word_at_rank (step s false) w k))
word_at_rank s (true ∷ w) k =
    let zeros : ℕ = count (step s false) (length w) in
    rw (le-ltb (zeros + word_rank (step s true) w) zeros (omega arith), add-sub_cancel_left)
    (ap (◌∷◌ true) (word_at_rank (step s true) w k))
