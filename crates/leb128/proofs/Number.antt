-- A number is read back from its encoding, and what is read encodes to the bytes that were read. The idea: a number of 128 or more is
-- low + 128 * high with low < 128 and high > 0; its encoding is one byte and that of high, and the parser goes the same way.
use mathlib.Core.Path.{◌≡◌, refl, ap}
use Prim.Native.Nat.{ℕ, zero, suc, pred, ◌+◌, ◌*◌, ◌/◌, ◌%◌, ◌^◌, ◌≤◌, ◌<◌}
use mathlib.Core.List.{List, [], ◌∷◌, ◌++◌, append_assoc}
use native.Mathlib.Nat.{pow-suc, one-le-pow, mul-suc, mod-eq_of_lt, div-eq_of_lt}
use native.Mathlib.Decide.{dec_lt}
use native.Mathlib.Omega.{arith}
use lib.ListN.{length, length-append}
use lib.Dec.{lit<}
use borrow.Author.Tests.{lt-ltb, le-ltb}
use Rattle.leb128.specs.Parser.{Parsed, parsed, failed}
use Rattle.leb128.proofs.Parser.{failed_not_parsed, checked_parsed, parsed_checked}
use Rattle.leb128.specs.Number.{AllBelow, encode_groups, encode_number, encode_numbers, above, parse_groups, ceiling_causes, Limits}
use Rattle.leb128.specs.Number.{parse_number, number}

-- More fuel than high changes nothing.
groups_fuel : (j k low high : ℕ) → high ≤ j → high ≤ k → encode_groups j low high ≡ encode_groups k low high
groups_fuel zero zero low high hj hk = refl
groups_fuel zero (suc k) low zero hj hk = refl
groups_fuel zero (suc k) low (suc high) hj hk = absurd (omega arith)
groups_fuel (suc j) zero low zero hj hk = refl
groups_fuel (suc j) zero low (suc high) hj hk = absurd (omega arith)
groups_fuel (suc j) (suc k) low zero hj hk = refl
groups_fuel (suc j) (suc k) low (suc high) hj hk =
    ap (◌∷◌ (low + 128)) (groups_fuel j k (suc high % 128) (suc high / 128) (omega arith) (omega arith))

pub encode_small : (n : ℕ) → n < 128 → encode_number n ≡ n ∷ []
unfolding encode_number
encode_small zero h = refl
encode_small (suc n) h = rw (div-eq_of_lt h, mod-eq_of_lt h)

pub encode_more : (low high : ℕ) → low < 128 → encode_number (low + 128 * suc high) ≡ (low + 128) ∷ encode_number (suc high)
unfolding encode_number
encode_more low high h =
    let d : (low + 128 * suc high) / 128 ≡ suc high = omega arith in
    let m : (low + 128 * suc high) % 128 ≡ low = omega arith in
    let s : low + 128 * suc high ≡ suc (pred (low + 128 * suc high)) = omega arith in
    rw (d, m, s) (ap (◌∷◌ (low + 128))
    (groups_fuel (pred (low + 128 * suc high)) (suc high) (suc high % 128) (suc high / 128) (omega arith) (omega arith)))

-- The lowest group in front of the others.
pub encode_step : (n : ℕ) → 128 ≤ n → encode_number n ≡ (n % 128 + 128) ∷ encode_number (n / 128)
encode_step n h =
    let whole : n % 128 + 128 * suc (pred (n / 128)) ≡ n = omega arith in
    let high : suc (pred (n / 128)) ≡ n / 128 = omega arith in
    rw (whole, high) at (encode_more (n % 128) (pred (n / 128)) (omega arith))

-- A number of k + 1 groups takes so many bytes.
pub encode_length : (k n : ℕ) → 128 ^ k ≤ n → n < 128 ^ suc k → length (encode_number n) ≡ suc k
encode_length zero n low high = rw (encode_small n (omega arith))
encode_length (suc k) n low high =
    let below : n / 128 < 128 ^ suc k = omega (arith, pow-suc 128 (suc k)) in
    let above : 128 ^ k ≤ n / 128 = omega (arith, pow-suc 128 k) in
    let some : 1 ≤ 128 ^ k = one-le-pow k 128 (lit< tt) in
    rw (encode_step n (omega (arith, pow-suc 128 k))) (ap suc (encode_length k (n / 128) above below))

-- A number of at most k + 1 groups takes at most so many.
pub encode_most : (k n : ℕ) → n < 128 ^ suc k → length (encode_number n) ≤ suc k
encode_most zero n high = rw (encode_small n (omega arith)) (omega arith)
encode_most (suc k) n high =
    elim (dec_lt n 128) [
      | yes small ↦ rw (encode_small n small) (omega arith)
      | no large ↦
          let rest = encode_most k (n / 128) (omega (arith, pow-suc 128 (suc k))) in
          rw (encode_step n (omega arith)) (omega arith)
    ]

-- Each of a list of numbers takes at most so many.
pub numbers_most : (k : ℕ) (ns : List ℕ) → AllBelow (128 ^ suc k) ns → length (encode_numbers ns) ≤ suc k * length ns
numbers_most k [] below = omega arith
numbers_most k (n ∷ ns) below =
    let one = encode_most k n (below 0) in
    let others = numbers_most k ns (λ i. below (suc i)) in
    rw (length-append (encode_number n) (encode_numbers ns), mul-suc) (omega arith)

pub numbers_append : (these those : List ℕ) → encode_numbers (these ++ those) ≡ encode_numbers these ++ encode_numbers those
numbers_append [] those = refl
numbers_append (n ∷ these) those = rw (numbers_append these those, append_assoc)

groups_back_more : (limit low high : ℕ) (rest : List ℕ) → low < 128
    → parse_groups limit (encode_number (suc high) ++ rest) ≡ parsed (suc high) rest
    → parse_groups (suc limit) (encode_number (low + 128 * suc high) ++ rest) ≡ parsed (low + 128 * suc high) rest
groups_back_more limit low high rest h ih =
    let m : (low + 128) % 128 ≡ low = omega arith in
    rw (encode_more low high h, le-ltb (low + 128) 128 (omega arith), m, ih)

groups_back : (limit n : ℕ) (rest : List ℕ) → n < 128 ^ suc limit → parse_groups (suc limit) (encode_number n ++ rest) ≡ parsed n rest
groups_back zero n rest h = rw (encode_small n, lt-ltb n 128)
groups_back (suc limit) n rest h =
    elim (dec_lt n 128) [
      | yes small ↦ rw (encode_small n small, lt-ltb n 128 small)
      | no large ↦
          let high : suc (pred (n / 128)) < 128 ^ suc limit = omega (arith, pow-suc 128 (suc limit)) in
          let e : n % 128 + 128 * suc (pred (n / 128)) ≡ n = omega arith in
          rw e at (groups_back_more (suc limit) (n % 128) (pred (n / 128)) rest (omega arith)
          (groups_back limit (suc (pred (n / 128))) rest high))
    ]

-- A number is read back from its encoding.
pub number_back : (n : ℕ) (rest : List ℕ) → n ≤ 18446744073709551615 → number (encode_number n ++ rest) ≡ parsed n rest
unfolding parse_number
number_back n rest low =
    parsed_checked (parse_groups 10) (ceiling_causes 18446744073709551615) (encode_number n ++ rest) (groups_back 9 n rest (omega arith))
    (le-ltb 18446744073709551615 n low, tt)

groups_same : (limit : ℕ) (bytes : List ℕ) {n : ℕ} {rest : List ℕ} → AllBelow 256 bytes → parse_groups limit bytes ≡ parsed n rest
    → encode_number n ++ rest ≡ bytes
groups_same zero bytes below e = absurd (failed_not_parsed e)
groups_same (suc limit) [] below e = absurd (failed_not_parsed e)
groups_same (suc limit) (byte ∷ bytes) {n} {rest} below e =
    elim (dec_lt byte 128) [
      | yes small ↦
          let e' : parsed byte bytes ≡ parsed n rest = rw (lt-ltb byte 128 small) at e in
          let en : n ≡ byte = cc in
          let er : rest ≡ bytes = cc in
          rw (en, er, encode_small byte small)
      | no large ↦
          go (λ m r. groups_same limit bytes {n = m} {rest = r} (λ i. below (suc i))) (parse_groups limit bytes) refl
          (rw (le-ltb byte 128 (omega arith)) at e) (omega arith)
    ]
  where
    go : ((m : ℕ) (r : List ℕ) → parse_groups limit bytes ≡ parsed m r → encode_number m ++ r ≡ bytes)
        → (p : Parsed ℕ) → parse_groups limit bytes ≡ p → above (byte % 128) p ≡ parsed n rest → 128 ≤ byte → encode_number n ++ rest ≡ byte
        ∷ bytes
    go ih (parsed zero r) ep e large = absurd (failed_not_parsed e)
    go ih (parsed (suc high) r) ep e large =
        let en : n ≡ byte % 128 + 128 * suc high = cc in
        let er : rest ≡ r = cc in
        let eb : byte % 128 + 128 ≡ byte = omega (arith, below 0) in
        rw (en, er, encode_more (byte % 128) high (omega arith), ih (suc high) r ep, eb)
    go ih (failed number) ep e large = absurd (failed_not_parsed e)

-- What is read encodes to the bytes that were read.
pub number_same : (limits : Limits) (bytes : List ℕ) {n : ℕ} {rest : List ℕ} → AllBelow 256 bytes
    → parse_number limits bytes ≡ parsed n rest → encode_number n ++ rest ≡ bytes
unfolding parse_number
number_same limits bytes below e =
    groups_same limits.bytes bytes below (checked_parsed (parse_groups limits.bytes) (ceiling_causes limits.ceiling) bytes e).1

above_one : (k : ℕ) → 1 < 128 ^ k → k ≡ suc (pred k)
above_one zero h = absurd (omega arith)
above_one (suc k) h = refl

-- Where fewer bytes or more are allowed, a number that they are enough for is read as before.
groups_within : (limit other : ℕ) (bytes : List ℕ) {n : ℕ} {rest : List ℕ} → n < 128 ^ suc other
    → parse_groups limit bytes ≡ parsed n rest → parse_groups (suc other) bytes ≡ parsed n rest
groups_within zero other bytes fits e = absurd (failed_not_parsed e)
groups_within (suc limit) other [] fits e = absurd (failed_not_parsed e)
groups_within (suc limit) other (byte ∷ bytes) {n} {rest} fits e =
    elim (dec_lt byte 128) [
      | yes small ↦ rw (lt-ltb byte 128 small) (rw (lt-ltb byte 128 small) at e)
      | no large ↦
          rw (le-ltb byte 128 (omega arith))
          (go (parse_groups limit bytes) refl (λ m r. groups_within limit (pred other) bytes {n = m} {rest = r})
          (rw (le-ltb byte 128 (omega arith)) at e))
    ]
  where
    go : (p : Parsed ℕ) → parse_groups limit bytes ≡ p
        → ((m : ℕ) (r : List ℕ) → m < 128 ^ suc (pred other) → parse_groups limit bytes ≡ parsed m r
        → parse_groups (suc (pred other)) bytes ≡ parsed m r)
        → above (byte % 128) p ≡ parsed n rest → above (byte % 128) (parse_groups other bytes) ≡ parsed n rest
    go (parsed zero r) ep ih e = absurd (failed_not_parsed e)
    go (parsed (suc high) r) ep ih e =
        let en : n ≡ byte % 128 + 128 * suc high = cc in
        let wide = pow-suc 128 other in
        let some : other ≡ suc (pred other) = above_one other (omega arith) in
        rw (some, ih (suc high) r (rw (← some) (omega arith)) ep) e
    go (failed number) ep ih e = absurd (failed_not_parsed e)

-- So is a number within other limits.
pub number_within : (limits others : Limits) (bytes : List ℕ) {n : ℕ} {rest : List ℕ} → 1 ≤ others.bytes → n < 128 ^ others.bytes
    → n ≤ others.ceiling → parse_number limits bytes ≡ parsed n rest → parse_number others bytes ≡ parsed n rest
unfolding parse_number
number_within limits others bytes {n} {rest} some fits low e =
    let s : others.bytes ≡ suc (pred others.bytes) = omega arith in
    let read = (checked_parsed (parse_groups limits.bytes) (ceiling_causes limits.ceiling) bytes e).1 in
    let groups : parse_groups others.bytes bytes ≡ parsed n rest =
    rw s (groups_within limits.bytes (pred others.bytes) bytes (rw (← s) fits) read) in
    parsed_checked (parse_groups others.bytes) (ceiling_causes others.ceiling) bytes groups (le-ltb others.ceiling n low, tt)
