-- The walk over the gaps as code makes it, turn by turn: what holds between the turns, and that a comma, a plus and the end keep it. The
-- word and the intermediate bits stay whole; the next digit of each is found by the commas and gaps left.
use Prim.Native.Nat.{ℕ, zero, suc, ◌+◌, ◌-◌, ◌*◌, ◌/◌, ◌%◌, ◌^◌, ◌≤◌, ◌<◌}
use native.Mathlib.Nat.{mod-eq_of_lt, mod-le, pow-suc, mul-le-mul_right, div-one, suc-sub-suc, lt_of_lt_of_le}
use native.Mathlib.Numerals.{sub-one}
use native.Mathlib.Omega.{arith}
use mathlib.Core.Path.{◌≡◌, sym, ap, ◌∙◌}
use mathlib.Core.Bool.{Bool}
use mathlib.Core.List.{List, [], ◌∷◌}
use lib.ListN.{length, get_or}
use lib.Bits.{bit_xor, xor_lt}
use lib.Pow.{pow_mono, field, mod-mod-pow}
use borrow.Author.Tests.{lt-ltb, le-ltb}
use Rattle.poly.proofs.Binary.{add_xor, bit_scale}
use Rattle.euclid.specs.Chain.{Pair}
use Rattle.pairs.specs.Words.{s10, words, as_number}
use Rattle.pairs.specs.Sequences.{bit, compositions, block}
use Rattle.pairs.specs.Pairs.{build}
use Rattle.pairs.proofs.Valid.{constant}
use Rattle.pairs.proofs.Words.{count, word_at, word_at_known, listed_words}
use Rattle.pairs.proofs.Letters.{letters, letters_number}
use Rattle.pairs.proofs.Gaps.{Left, commas_le, share_is, after_plus}
use Rattle.pairs.proofs.Compositions.{parts, listed_compositions, compositions_count}
use Rattle.pairs.proofs.Quotients.{bit_constant}
use Rattle.pairs.proofs.Blocks.{block_size, listed_block, word_index, composition_index}
use Rattle.pairs.proofs.PairWalk.{append, shift, pair_walk, walk_in, pair_in, build_walk}

abbrev pair : ℕ → ℕ → Pair
pair r s = record { f = r; g = s }

-- The product with one digit x more, and what a finished quotient makes of (r, s), as the machine computes them.
abbrev pub grown : ℕ → ℕ → ℕ → ℕ
grown product x r = bit_xor (product * 2 % 2 ^ 32) (x * r)

abbrev pub finished : ℕ → ℕ → ℕ → ℕ → ℕ
finished product x r s = bit_xor (grown product x r) s

grown_is : (product x r : ℕ) → product < 2 ^ 31 → x < 2 → grown product x r ≡ append product x r
unfolding append
grown_is product x r h l =
    let e : product * 2 % 2 ^ 32 ≡ product * 2 = mod-eq_of_lt (omega arith) in
    rw (e, add_xor, bit_scale x r l)

finished_is : (product x r s : ℕ) → product < 2 ^ 31 → x < 2 → pair (finished product x r s) r ≡ shift (append product x r) (pair r s)
unfolding shift
finished_is product x r s h l = rw (add_xor, grown_is product x r h l)

module _ (d product x r : ℕ) (hp : product < 2 ^ d) (hr : r < 2 ^ d) (hx : x < 2) where
  grown_lt : grown product x r < 2 ^ suc d
  grown_lt =
      let le : product * 2 % 2 ^ 32 ≤ product * 2 = mod-le (product * 2) (2 ^ 32) in
      let le' : x * r ≤ 1 * r = mul-le-mul_right r (omega arith) in
      xor_lt (suc d) (product * 2 % 2 ^ 32) (x * r) (omega (arith, pow-suc 2 d)) (omega (arith, pow-suc 2 d))

  finished_lt : (s : ℕ) → s < 2 ^ d → finished product x r s < 2 ^ suc d
  finished_lt s hs = xor_lt (suc d) (grown product x r) s grown_lt (omega (arith, pow-suc 2 d))

-- The state of the loop at degree n on the way to the pair t: `left` compositions are left, and each gap passed gave one digit.
pub record Between (n word bits : ℕ) (t : Pair) (index left gaps commas r s product : ℕ) : Type 0 where
  pub few : n ≤ 31
  pub gap : gaps < n
  pub share : Left gaps commas index left
  pub r_lt : r < 2 ^ (n - gaps)
  pub s_lt : s < 2 ^ (n - gaps)
  pub product_lt : product < 2 ^ (n - gaps)
  pub reaches : pair_walk gaps commas index (bits % 2 ^ (gaps - commas)) (letters (suc commas) word) product (pair r s) ≡ t

module _ (g i b product : ℕ) (l : Bool) (w : List Bool) (rs : Pair) where
  at_comma : (p : ℕ) → i < parts (suc g) (suc p)
      → pair_walk (suc g) (suc p) i b (l ∷ w) product rs
      ≡ pair_walk g p i b w (shift (append product (bit l) rs.f) rs).f (shift (append product (bit l) rs.f) rs)
  at_comma p h = rw (lt-ltb i (parts (suc g) (suc p)) h, sub-one)

  at_plus : (p : ℕ) → parts (suc g) p ≤ i
      → pair_walk (suc g) p i b (l ∷ w) product rs
      ≡ pair_walk g p (i - parts (suc g) p) (b % 2 ^ (g - p)) (l ∷ w) (append product (b / 2 ^ (g - p)) rs.f) rs
  at_plus p h = rw (le-ltb i (parts (suc g) p) h)

module _ {n word bits : ℕ} {t : Pair} where
  below_31 : {index left gaps commas r s product : ℕ} → Between n word bits t index left gaps commas r s product → product < 2 ^ 31
  below_31 {gaps = gaps} b = lt_of_lt_of_le b.product_lt (pow_mono {i = n - gaps} {j = 31} (omega (arith, b.few)))

  pub commas_lt : {index left gaps commas r s product : ℕ} → Between n word bits t index left gaps commas r s product → commas < 31
  commas_lt b = omega (arith, commas_le b.share, b.few, b.gap)

  module _ (g p : ℕ) {index left r s product : ℕ} (b : Between n word bits t index left (suc g) p r s product) where
    -- One gap less leaves room for one digit more.
    room : n - g ≡ suc (n - suc g)
    room = omega (arith, b.gap)

    more : 2 ^ (n - suc g) ≤ 2 ^ (n - g)
    more = pow_mono {i = n - suc g} {j = n - g} (omega arith)

  pub comma_turn : (gaps commas : ℕ) {index left r s product : ℕ} → Between n word bits t index left gaps commas r s product → 0 < gaps
      → index < left * commas / gaps
      → Between n word bits t index (left * commas / gaps) (gaps - 1) (commas - 1) (finished product (word / 2 ^ commas % 2) r s) r
      (finished product (word / 2 ^ commas % 2) r s)
  comma_turn zero commas b pos h = absurd (omega arith)
  comma_turn (suc g) zero b pos h = absurd (omega (arith, share_is g 0 b.share))
  comma_turn (suc g) (suc p) {index} {left} {r} {s} {product} b pos h =
      rw (sub-one, sub-one)
      (record {
        few = b.few;
        gap = omega (arith, b.gap);
        share = record { count = share_is g (suc p) b.share; inside = h };
        r_lt = rw (room g (suc p) b) next_lt;
        s_lt = lt_of_lt_of_le b.r_lt (more g (suc p) b);
        product_lt = rw (room g (suc p) b) next_lt;
        reaches =
            ap (λ v. pair_walk g p index (bits % 2 ^ (g - p)) (letters (suc p) word) v.f v)
            (finished_is product x r s (below_31 b) x_lt
            ∙ ap (λ v. shift (append product v r) (pair r s)) (sym (bit_constant (word / 2 ^ suc p))))
            ∙ sym (at_comma g index (bits % 2 ^ (g - p)) product (constant (word / 2 ^ suc p)) (letters (suc p) word) (pair r s) p
            (rw (share_is g (suc p) b.share) at h))
            ∙ rw (suc-sub-suc g p) at b.reaches;
      })
    where
      x : ℕ
      x = word / 2 ^ suc p % 2

      x_lt : x < 2
      x_lt = omega arith

      next_lt : finished product x r s < 2 ^ suc (n - suc g)
      next_lt = finished_lt (n - suc g) product x r b.product_lt b.r_lt x_lt s b.s_lt

  pub plus_turn : (gaps commas : ℕ) {index left r s product : ℕ} → Between n word bits t index left gaps commas r s product → 0 < gaps
      → left * commas / gaps ≤ index
      → Between n word bits t (index - left * commas / gaps) (left - left * commas / gaps) (gaps - 1) commas r s
      (grown product (bits / 2 ^ (gaps - 1 - commas) % 2) r)
  plus_turn zero commas b pos h = absurd (omega arith)
  plus_turn (suc g) p {index} {left} {r} {s} {product} b pos h =
      rw sub-one
      (record {
        few = b.few;
        gap = omega (arith, b.gap);
        share = after_plus g p b.share h;
        r_lt = lt_of_lt_of_le b.r_lt (more g p b);
        s_lt = lt_of_lt_of_le b.s_lt (more g p b);
        product_lt = rw (room g p b) (grown_lt (n - suc g) product x r b.product_lt b.r_lt x_lt);
        reaches =
            rw (share_is g p b.share, grown_is product x r (below_31 b) x_lt)
            (rw (up, mod-mod-pow bits 1 (g - p), field bits 1 (g - p)) at (sym (at_plus g index (bits % 2 ^ (suc g - p)) product
            (constant (word / 2 ^ p)) (letters p word) (pair r s) p (rw (share_is g p b.share) at h))
            ∙ b.reaches));
      })
    where
      x : ℕ
      x = bits / 2 ^ (g - p) % 2

      x_lt : x < 2
      x_lt = omega arith

      up : suc g - p ≡ 1 + (g - p)
      up = omega (arith, commas_le (after_plus g p b.share h))

  pub last_turn : (gaps commas : ℕ) {index left r s product : ℕ} → Between n word bits t index left gaps commas r s product → gaps ≤ 0
      → pair (finished product (word % 2) r s) r ≡ t
  last_turn (suc g) commas b h = absurd (omega arith)
  last_turn zero (suc p) b h = absurd (omega (arith, b.share.inside, b.share.count))
  last_turn zero zero {r = r} {s = s} {product = product} b h =
      finished_is product (word % 2) r s (below_31 b) (omega arith)
      ∙ ap (λ v. shift (append product v r) (pair r s)) (sym (bit_constant word)) ∙ rw div-one at b.reaches

module _ (n k place : ℕ) (two : 2 ≤ k) (le : k ≤ n) (fits : place < length (block n k)) where
  in_block : place < block_size n k
  in_block = rw (listed_block n k).long at fits

  pub some_word : (w : ℕ) → w ≡ length (words k) → 0 < w
  some_word w e = rw (e, (listed_words k).long) (omega (arith, word_index n k place in_block))

  read : (w word : ℕ) → w ≡ count s10 k → word ≡ as_number (get_or (words k) (place % w) [])
      → letters k word ≡ word_at s10 k (place % count s10 k)
  read w word ew is =
      let v : ℕ = place % count s10 k in
      let l : v < count s10 k = word_index n k place in_block in
      let at : get_or (words k) (place % w) [] ≡ word_at s10 k v = rw ew ((listed_words k).stands v l) in
      rw (is, at) (rw (word_at_known s10 k v l).long at (letters_number (word_at s10 k v)))

  pub first_turn : (c w word : ℕ) → n ≤ 31 → c ≡ length (compositions n k) → w ≡ length (words k)
      → word ≡ as_number (get_or (words k) (place % w) [])
      → Between n word (place / w) (walk_in n k place) (place / w / 2 ^ (n - k)) c (n - 1) (k - 1) 1 0 1
  unfolding walk_in
  first_turn c w word few ec ew is =
      let one : n - (n - 1) ≡ 1 = omega arith in
      let same : n - 1 - (k - 1) ≡ n - k = omega arith in
      let up : suc (k - 1) ≡ k = omega arith in
      let ew' : w ≡ count s10 k = ew ∙ (listed_words k).long in
      record {
        few = few;
        gap = omega arith;
        share = record {
          count = ec ∙ compositions_count n k (omega arith) (omega arith);
          inside = rw (ec, (listed_compositions n k).long, ew') (composition_index n k place in_block);
        };
        r_lt = rw one (omega arith);
        s_lt = rw one (omega arith);
        product_lt = rw one (omega arith);
        reaches = rw (same, ap (λ v. letters v word) up, read w word ew' is, ew');
      }

  -- The last quotient 1.
  pub answer : (last r : ℕ) → pair last r ≡ walk_in n k place
      → pair (bit_xor last r) last ≡ build (get_or (block n k) place [])
  unfolding pair_in shift
  answer last r is =
      ap (λ v. pair v last) (sym (add_xor last r)) ∙ ap (λ t. shift t.f t) is
      ∙ sym (ap build ((listed_block n k).stands place in_block) ∙ build_walk n k place (omega arith) in_block)
