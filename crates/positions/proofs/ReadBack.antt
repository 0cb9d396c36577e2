-- A sequence read one quotient after the other, for code that takes it from an array: its intermediate bits and its word as numbers, and
-- its composition's rank by the gaps.
use Prim.Native.Nat.{ℕ, zero, suc, ◌+◌, ◌-◌, ◌*◌, ◌/◌, ◌%◌, ◌^◌, ◌≤◌, ◌<◌}
use native.Mathlib.Nat.{mod-eq_of_lt, mul-one, zero-add, zero-mul, mul-le-mul_left, le_refl}
use native.Mathlib.Numerals.{sub-one}
use native.Mathlib.Omega.{arith}
use mathlib.Core.Path.{◌≡◌, refl, sym, ap, ◌∙◌}
use mathlib.Core.Bool.{Bool}
use mathlib.Core.List.{List, [], ◌∷◌, map}
use lib.ListN.{length, length-map}
use lib.Pow.{pow_pos, pow_mono}
use Rattle.poly.specs.Code.{degree}
use Rattle.poly.proofs.Shifts.{one_shl}
use Rattle.pairs.specs.Counts.{sum}
use Rattle.pairs.specs.Sequences.{bits, bit}
use Rattle.positions.specs.Ranking.{last_letters, Parts}
use Rattle.pairs.proofs.Valid.{EachPositive, constant, Valid}
use Rattle.pairs.specs.Words.{as_number}
use Rattle.pairs.proofs.Letters.{number_lt, letters, letters_number, number_from, number_from_is}
use Rattle.pairs.proofs.Quotients.{middle, middle_lt, middle_from, middle_from_is, quotients_of_parts, bit_constant, code_has}
use Rattle.pairs.proofs.Compositions.{parts, pascal, parts_share, composition_rank}
use Rattle.pairs.proofs.Blocks.{between_lt, length_le}
use Rattle.pairs.proofs.Reciprocals.{share_exact}
use Rattle.pairs.proofs.Binomial.{down_whole}
use Rattle.pairs.proofs.Bounds.{choose_times_lt}

-- ---- intermediate bits and word
digits_letters : (m x : ℕ) → last_letters m x ≡ letters m x
digits_letters zero x = refl
digits_letters (suc m) x = ap (◌∷◌ (constant (x / 2 ^ m))) (digits_letters m x)

digits_word : (qs : List ℕ) → last_letters (length qs) (as_number (map constant qs)) ≡ map constant qs
digits_word qs =
    rw (length-map qs constant) at
    (digits_letters (length (map constant qs)) (as_number (map constant qs)) ∙ letters_number (map constant qs))

grows : (x b : ℕ) → x ≤ x * 2 ^ b
grows x b = rw (mul-one x) at (mul-le-mul_left x (pow_pos b))

middle_from_le : (x : ℕ) (qs : List ℕ) → x ≤ middle_from x qs
middle_from_le x qs = omega (arith, middle_from_is x qs, grows x (bits (map (degree 2) qs)))

number_from_le : (x : ℕ) (w : List Bool) → x ≤ number_from x w
number_from_le x w = omega (arith, number_from_is x w, grows x (length w))

-- The bits x and the word y read so far of all, where the quotients of rest are still to come.
pub record Read (all : List ℕ) (x y : ℕ) (rest : List ℕ) : Type 0 where
  pub positive : EachPositive (map (degree 2) rest)
  pub total : sum (map (degree 2) rest) < 32
  pub between : middle_from x rest ≡ middle all
  pub word : number_from y (map constant rest) ≡ as_number (map constant all)

-- One quotient q of degree d more, as code computes it.
pub record Turn (all : List ℕ) (x y q d : ℕ) (rest : List ℕ) : Type 0 where
  pub degree_pos : 1 ≤ d
  pub degree_small : d < 32
  pub leading : 1 * 2 ^ d % 2 ^ 32 ≤ q
  pub bits_lt : x * 2 ^ (d - 1) % 2 ^ 32 + (q - 1 * 2 ^ d % 2 ^ 32) / 2 < 2 ^ 31
  pub word_lt : 2 * y + q % 2 < 2 ^ 31
  pub next : Read all (x * 2 ^ (d - 1) % 2 ^ 32 + (q - 1 * 2 ^ d % 2 ^ 32) / 2) (2 * y + q % 2) rest

module _ {n : ℕ} {all : List ℕ} (valid : Valid n all) where
  pub read_none : n < 32 → Read all 0 0 all
  read_none small = record {
    positive = valid.positive;
    total = omega (arith, valid.total);
    between = middle_from_is 0 all ∙ omega arith;
    word = number_from_is 0 (map constant all) ∙ omega arith;
  }

  pub read_all : {x y : ℕ} → Read all x y [] → Parts all x y
  read_all r = record {
    fit = rw r.between (middle_lt all valid.positive);
    give = rw (r.between, r.word, digits_word all) (quotients_of_parts all valid.positive);
  }

  module _ (small : n < 32) {x y q : ℕ} {rest : List ℕ} (r : Read all x y (q ∷ rest)) where
    degree_small : degree 2 q < 32
    degree_small = omega (arith, r.total)

    power : 1 * 2 ^ degree 2 q % 2 ^ 32 ≡ 2 ^ degree 2 q
    power = one_shl 32 (degree 2 q) degree_small

    bits_lt : x * 2 ^ (degree 2 q - 1) + (q - 2 ^ degree 2 q) / 2 < 2 ^ 31
    bits_lt =
        let le : _ = middle_from_le (x * 2 ^ (degree 2 q - 1) + (q - 2 ^ degree 2 q) / 2) rest in
        omega (arith, r.between, between_lt n all valid, pow_mono {i = n - length all} {j = 31} (omega arith))

    shifted : x * 2 ^ (degree 2 q - 1) % 2 ^ 32 ≡ x * 2 ^ (degree 2 q - 1)
    shifted = mod-eq_of_lt (omega (arith, bits_lt))

    letter : y * 2 + bit (constant q) ≡ 2 * y + q % 2
    letter = omega (arith, bit_constant q)

    word_fits : as_number (map constant all) < 2 ^ 31
    word_fits =
        omega (
          arith,
          rw (length-map all constant) at (number_lt (map constant all)),
          pow_mono {i = length all} {j = 31} (omega (arith, length_le n all valid)),
        )

    word_lt : 2 * y + q % 2 < 2 ^ 31
    word_lt =
        let le : _ = number_from_le (y * 2 + bit (constant q)) (map constant rest) in
        omega (arith, r.word, letter, word_fits)

    pub turn : {d : ℕ} → d ≡ degree 2 q → Turn all x y q d rest
    turn is =
        rw is
        (record {
          degree_pos = r.positive.0;
          degree_small = degree_small;
          leading = rw power (code_has q r.positive.0).low;
          bits_lt = rw (shifted, power) bits_lt;
          word_lt = word_lt;
          next = rw (shifted, power)
              (record {
                positive = r.positive.1;
                total = omega (arith, r.total);
                between = r.between;
                word = rw (← letter) r.word;
              });
        })

-- ---- the composition
-- The gaps walked so far: left ones are left, the first d of them in the degree that the walk is in, and behind it m degrees ds.
pub record Walked (n : ℕ) (all : List ℕ) (rank left count m d : ℕ) (ds : List ℕ) : Type 0 where
  pub here : 1 ≤ d
  pub later : EachPositive ds
  pub long : length ds ≡ m
  pub total : d + sum ds ≡ left
  pub within : left ≤ n
  pub count_is : count ≡ parts left (suc m)
  pub rank_is : rank + composition_rank left (d ∷ ds) ≡ composition_rank n all

several : (d : ℕ) (ds : List ℕ) → 1 ≤ d → EachPositive ds → 0 < length ds → 2 ≤ d + sum ds
several d [] h p l = absurd (omega arith)
several d (d' ∷ ds) h p l = omega (arith, p.0)

-- How many of count compositions have a comma in the first gap.
share_is : (left count m : ℕ) → 2 ≤ left → count ≡ parts left (suc m) → count * m / (left - 1) ≡ parts (left - 1) m
share_is zero count m h e = absurd (omega arith)
share_is (suc zero) count m h e = absurd (omega arith)
share_is (suc (suc l)) count m h e = rw (sub-one, e) (sym (parts_share l m))

module _ {n : ℕ} {all : List ℕ} where
  pub walked_none : {count m d : ℕ} {ds : List ℕ} → all ≡ d ∷ ds → EachPositive all → sum all ≡ n → length ds ≡ m → count ≡ parts n (suc m)
      → Walked n all 0 n count m d ds
  walked_none {d = d} {ds = ds} is p e long c = record {
    here = (rw is at p).0;
    later = (rw is at p).1;
    long = long;
    total = sym (ap sum is) ∙ e;
    within = le_refl n;
    count_is = c;
    rank_is = zero-add (composition_rank n (d ∷ ds)) ∙ ap (composition_rank n) (sym is);
  }

  module _ {rank left count m d : ℕ} {ds : List ℕ} (w : Walked n all rank left count m d ds) where
    pub walked_all : m ≡ 0 → rank ≡ composition_rank n all
    walked_all none = go ds w.long w.total w.rank_is
      where
        single : (left d : ℕ) → d ≡ left → composition_rank left (d ∷ []) ≡ 0
        single zero d e = refl
        single (suc l) zero e = refl
        single (suc zero) (suc zero) e = refl
        single (suc (suc l)) (suc zero) e = refl
        single (suc zero) (suc (suc d)) e = absurd (omega arith)
        single (suc (suc l)) (suc (suc d)) e = omega (arith, single (suc l) (suc d) (omega arith))

        go : (ds : List ℕ) → length ds ≡ m → d + sum ds ≡ left → rank + composition_rank left (d ∷ ds) ≡ composition_rank n all
            → rank ≡ composition_rank n all
        go [] long total is = omega (arith, single left d (omega arith))
        go (d' ∷ ds) long total is = absurd (omega arith)

    pub left_several : 0 < m → 2 ≤ left
    left_several h = rw w.total at (several d ds w.here w.later (omega (arith, w.long)))

    pub share_fits : n < 32 → count * m < 2 ^ 32
    share_fits small = go left w.count_is (omega (arith, w.within))
      where
        go : (left : ℕ) → count ≡ parts left (suc m) → left < 32 → count * m < 2 ^ 32
        go zero is l = rw (is, zero-mul m) (omega arith)
        go (suc gaps) is l = rw is (choose_times_lt gaps m (omega arith))

    share_whole : 0 < m → count * m % (left - 1) ≡ 0
    share_whole h = go left (left_several h) w.count_is
      where
        go : (left : ℕ) → 2 ≤ left → count ≡ parts left (suc m) → count * m % (left - 1) ≡ 0
        go zero l is = absurd (omega arith)
        go (suc gaps) l is = rw (sub-one, is) (down_whole gaps m (omega arith))

    pub share_computed : n < 32 → 0 < m → count * m * (2 ^ 32 / (left - 1) + 1) / 2 ^ 32 ≡ count * m / (left - 1)
    share_computed small h =
        share_exact (count * m) (left - 1) (omega (arith, left_several h)) (share_whole h) (share_fits small)

    pub share_le : 0 < m → count * m / (left - 1) ≤ count
    share_le h = go left (left_several h) w.count_is (share_is left count m (left_several h) w.count_is)
      where
        go : (left : ℕ) → 2 ≤ left → count ≡ parts left (suc m) → count * m / (left - 1) ≡ parts (left - 1) m
            → count * m / (left - 1) ≤ count
        go zero h is share = absurd (omega arith)
        go (suc l) h is share = rw share (rw sub-one (omega (arith, pascal l m)))

  pub walked_plus : {rank left count m d : ℕ} {ds : List ℕ} → Walked n all rank left count m d ds → 0 < m → 1 < d
      → Walked n all (rank + count * m / (left - 1)) (left - 1) (count - count * m / (left - 1)) m (d - 1) ds
  walked_plus {rank} {left = zero} {count} {m} {d} {ds} w h l = absurd (omega arith)
  walked_plus {rank} {left = suc left} {count} {m} {d = zero} {ds} w h l = absurd (omega arith)
  walked_plus {rank} {left = suc left} {count} {m} {d = suc zero} {ds} w h l = absurd (omega arith)
  walked_plus {rank} {left = suc left} {count} {m} {d = suc (suc d)} {ds} w h l =
      let share : count * m / (suc left - 1) ≡ parts (suc left - 1) m =
      share_is (suc left) count m (left_several w h) w.count_is in
      rw share
      (rw (sub-one, sub-one)
      (record {
        here = omega arith;
        later = w.later;
        long = w.long;
        total = omega (arith, w.total);
        within = omega (arith, w.within);
        count_is = omega (arith, w.count_is, pascal left m);
        rank_is = omega (arith, w.rank_is, ap (parts left) w.long);
      }))

  pub walked_comma : {rank left count m d d' : ℕ} {ds : List ℕ} → Walked n all rank left count m d (d' ∷ ds) → d ≤ 1
      → Walked n all rank (left - 1) (count * m / (left - 1)) (m - 1) d' ds
  walked_comma {rank} {left = zero} {count} {m} {d} {d'} {ds} w h = absurd (omega (arith, w.total, w.here))
  walked_comma {rank} {left = suc left} {count} {m} {d = zero} {d'} {ds} w h = absurd (omega (arith, w.here))
  walked_comma {rank} {left = suc left} {count} {m} {d = suc (suc d)} {d'} {ds} w h = absurd (omega arith)
  walked_comma {rank} {left = suc left} {count} {m = zero} {d = suc zero} {d'} {ds} w h = absurd (omega (arith, w.long))
  walked_comma {rank} {left = suc left} {count} {m = suc m} {d = suc zero} {d'} {ds} w h =
      let share : count * suc m / (suc left - 1) ≡ parts (suc left - 1) (suc m) =
      share_is (suc left) count (suc m) (left_several w (omega arith)) w.count_is in
      rw share
      (rw (sub-one, sub-one)
      (record {
        here = w.later.0;
        later = w.later.1;
        long = omega (arith, w.long);
        total = omega (arith, w.total);
        within = omega (arith, w.within);
        count_is = refl;
        rank_is = w.rank_is;
      }))
