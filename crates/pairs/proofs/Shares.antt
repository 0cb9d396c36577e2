-- How many words begin with either letter, as code finds it from how many there are: from (1,0) and (1,1), words of m letters and of one
-- letter less number 2^(m-1) together, and from (0,1) either letter begins half of them.
use Prim.Native.Nat.{ℕ, zero, suc, ◌+◌, ◌-◌, ◌*◌, ◌/◌, ◌%◌, ◌^◌, ◌≤◌, ◌<◌}
use native.Mathlib.Numerals.{sub-one}
use native.Mathlib.Omega.{arith}
use mathlib.Core.Path.{◌≡◌}
use mathlib.Core.Bool.{true, false}
use lib.ListN.{length}
use Rattle.poly.proofs.Shifts.{one_shl}
use Rattle.pairs.specs.Words.{State, s10, s11, s01, step, words_from, words}
use Rattle.pairs.proofs.Words.{count_suc, count_s11, neighbours, listed_words, length_words}

pub split : (s : State) (m : ℕ) → 1 ≤ m
    → length (words_from s m) ≡ length (words_from (step s false) (m - 1)) + length (words_from (step s true) (m - 1))
split s zero h = absurd (omega arith)
split s (suc m) h =
    rw (sub-one, length_words s (suc m), length_words (step s false) m, length_words (step s true) m) (count_suc s m)

-- From (1,0) letter 1 leads to (1,1).
to11 : (m : ℕ) → 2 ≤ m → length (words_from s11 (m - 1)) + length (words_from s10 m) ≡ 2 ^ (m - 1)
to11 zero h = absurd (omega arith)
to11 (suc zero) h = absurd (omega arith)
to11 (suc (suc m)) h = rw (sub-one, length_words, length_words) (let all : _ = neighbours (suc m) in omega arith)

-- As many words lead from there as from (1,0).
pub as_many : (m : ℕ) → 1 ≤ m → length (words_from s11 m) ≡ length (words_from s10 m)
as_many zero h = absurd (omega arith)
as_many (suc m) h = rw (length_words, length_words) (count_s11 m)

-- z of the words begin with 0 and o with 1.
pub record Shares (s : State) (m z o : ℕ) : Type 0 where
  pub zeros : z ≡ length (words_from (step s false) (m - 1))
  pub ones : o ≡ length (words_from (step s true) (m - 1))

-- 2^(m-1) as code shifts it
abbrev pub power : ℕ → ℕ
power m = 1 * 2 ^ (m - 1) % 2 ^ 64

pub shares01 : (m count : ℕ) → 1 ≤ m → count ≡ length (words_from s01 m) → Shares s01 m (count / 2) (count / 2)
shares01 m count one is =
    let half : count / 2 ≡ length (words_from s10 (m - 1)) = omega (arith, split s01 m one) in
    record { zeros = half; ones = half }

module _ (m count : ℕ) (few : m ≤ 31) (two : 2 ≤ m) where
  shifted : power m ≡ 2 ^ (m - 1)
  shifted = one_shl 64 (m - 1) (omega arith)

  module _ (is : count ≡ length (words_from s10 m)) where
    pub fits10 : (count ≤ power m) × (power m - count ≤ count)
    fits10 = rw shifted (omega (arith, to11 m two, split s10 m (omega arith)))

    pub shares10 : Shares s10 m (count - (power m - count)) (power m - count)
    shares10 = rw shifted (record {
      zeros = omega (arith, to11 m two, split s10 m (omega arith));
      ones = omega (arith, to11 m two);
    })

  module _ (is : count ≡ length (words_from s11 m)) where
    pub fits11 : (count ≤ power m) × (power m - count ≤ count)
    fits11 = rw shifted (omega (arith, to11 m two, as_many m (omega arith), split s11 m (omega arith)))

    pub shares11 : Shares s11 m (power m - count) (count - (power m - count))
    shares11 = rw shifted (record {
      zeros = omega (arith, to11 m two, as_many m (omega arith));
      ones = omega (arith, to11 m two, as_many m (omega arith), split s11 m (omega arith));
    })

-- The kept words of one letter more.
module _ (k kept : ℕ) (few : k < 64) (is : kept ≡ length (words k)) where
  together : kept + length (words (suc k)) ≡ 2 ^ k
  together = rw (is, (listed_words k).long, (listed_words (suc k)).long) (neighbours k)

  pub next_fits : kept ≤ 1 * 2 ^ k % 2 ^ 64
  next_fits = rw (one_shl 64 k few) (omega (arith, together))

  pub next_words : 1 * 2 ^ k % 2 ^ 64 - kept ≡ length (words (suc k))
  next_words = rw (one_shl 64 k few) (omega (arith, together))
