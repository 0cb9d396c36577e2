-- The pair of a block's sequence by the walk over the gaps, with no list of quotients: beside (r, s) it keeps the product of r with the
-- quotient so far. A new digit x of the quotient turns the product m into m times the variable plus x times r.
use Prim.Native.Nat.{ℕ, zero, suc, ◌+◌, ◌-◌, ◌*◌, ◌/◌, ◌%◌, ◌^◌, ◌≤◌, ◌<◌}
use native.Mathlib.Nat.{le_refl, mod-lt, suc-sub-suc, div-lt_iff_lt-mul, pow-succ'}
use native.Mathlib.Numerals.{sub-one}
use native.Mathlib.Decide.{dec_lt}
use native.Mathlib.Omega.{arith}
use mathlib.Core.Path.{◌≡◌, refl, sym, ap, ◌∙◌}
use mathlib.Core.Bool.{Bool, true, false, cond}
use mathlib.Core.List.{List, [], ◌∷◌}
use lib.ListN.{length, get_or}
use lib.Dec.{ltb}
use lib.Pow.{pow_pos, pow_mono}
use borrow.Author.Tests.{lt-ltb, le-ltb}
use Rattle.loops.proofs.Loops.{seek, seek_map}
use Rattle.poly.specs.Code.{add, mul, scale}
use Rattle.poly.proofs.Ring
use Rattle.pairs.specs.Sequences.{bit}
use Rattle.euclid.specs.Chain.{Pair}
use Rattle.pairs.specs.Pairs.{turn, turns, start, build, pairs}
use Rattle.pairs.specs.Words.{s10}
use Rattle.pairs.proofs.Compositions.{parts}
use Rattle.pairs.proofs.Words.{count, word_at}
use Rattle.pairs.proofs.Blocks.{block_size, block_at}
use Rattle.pairs.proofs.Sequences.{sequence_at}
use Rattle.pairs.proofs.Pairs.{length_blocks, pair_at_is}
use Rattle.pairs.proofs.Walk.{walk, block_at_walk}

-- The product of r with a quotient that gets one more digit x.
unfoldable pub append : ℕ → ℕ → ℕ → ℕ
append product x r = add 2 (product * 2) (scale 2 x r)

-- What a finished quotient makes of (r, s), by its product with r.
unfoldable pub shift : ℕ → Pair → Pair
shift product rs = record { f = add 2 product rs.g; g = rs.f }

abbrev pub pair_walk : ℕ → ℕ → ℕ → ℕ → List Bool → ℕ → Pair → Pair
pair_walk zero p i b [] product rs = rs
pair_walk zero p i b (l ∷ w) product rs = shift (append product (bit l) rs.f) rs
pair_walk (suc g) p i b [] product rs = rs
pair_walk (suc g) p i b (l ∷ w) product rs =
    let next : Pair = shift (append product (bit l) rs.f) rs in
    let comma : Pair = pair_walk g (p - 1) i b w next.f next in
    let plus : Pair = pair_walk g p (i - parts (suc g) p) (b % 2 ^ (g - p)) (l ∷ w) (append product (b / 2 ^ (g - p)) rs.f) rs in
    cond (ltb i (parts (suc g) p)) comma plus

-- The walk from (1, 0) at place r of the block of k quotients: the pair before the last quotient 1.
unfoldable pub walk_in : ℕ → ℕ → ℕ → Pair
walk_in n k r =
    let c : ℕ = r / count s10 k in
    pair_walk (n - 1) (k - 1) (c / 2 ^ (n - k)) (c % 2 ^ (n - k)) (word_at s10 k (r % count s10 k)) 1 start

-- The pair at that place.
unfoldable pub pair_in : ℕ → ℕ → ℕ → Pair
pair_in n k r = shift (walk_in n k r).f (walk_in n k r)

-- The pair at position j: the number of quotients is found by subtracting the blocks before.
unfoldable pub pair_at : ℕ → ℕ → Pair
pair_at n j = seek (block_size n) (pair_in n) start 2 (n - 1) j

bit_lt : (l : Bool) → bit l < 2
bit_lt false = omega arith
bit_lt true = omega arith

-- The next intermediate bit is a single bit.
top_bit : (g p b : ℕ) → b < 2 ^ (suc g - p) → b / 2 ^ (g - p) < 2
top_bit g p b h =
    let le : suc g - p ≤ suc (g - p) = omega arith in
    (div-lt_iff_lt-mul (pow_pos (g - p))).1 (omega (arith, pow_mono le, pow-succ' 2 (g - p)))

append_mul : (q x r : ℕ) → x < 2 → append (mul 2 q r) x r ≡ mul 2 (q * 2 + x) r
unfolding append
append_mul q x r h = sym (Ring.mul_cons 2 (le_refl 2) q r h)

shift_turn : (q : ℕ) (l : Bool) (rs : Pair) → shift (append (mul 2 q rs.f) (bit l) rs.f) rs ≡ turn rs (q * 2 + bit l)
unfolding shift turn
shift_turn q l rs = rw (append_mul q (bit l) rs.f (bit_lt l))

pub pair_walk_is : (g p i b : ℕ) (w : List Bool) (q : ℕ) (rs : Pair) → b < 2 ^ (g - p)
    → pair_walk g p i b w (mul 2 q rs.f) rs ≡ turns rs (walk g p i b w q)
pair_walk_is zero p i b [] q rs h = refl
pair_walk_is zero p i b (l ∷ w) q rs h = shift_turn q l rs
pair_walk_is (suc g) p i b [] q rs h = refl
pair_walk_is (suc g) zero i b (l ∷ w) q rs h =
    rw (le-ltb i 0 (omega arith), append_mul q (b / 2 ^ (g - 0)) rs.f (top_bit g 0 b h))
    (pair_walk_is g 0 (i - 0) (b % 2 ^ (g - 0)) (l ∷ w) (q * 2 + b / 2 ^ (g - 0)) rs (mod-lt b (pow_pos (g - 0))))
pair_walk_is (suc g) (suc p) i b (l ∷ w) q rs h = elim (dec_lt i (parts (suc g) (suc p))) [
  | yes a ↦ rw (lt-ltb i (parts (suc g) (suc p)) a, sub-one, shift_turn q l rs)
      (rw (Ring.one_mul 2 (le_refl 2)) at (pair_walk_is g p i b w 1 (turn rs (q * 2 + bit l)) (rw suc-sub-suc at h)))
  | no a ↦ rw (le-ltb i (parts (suc g) (suc p)) (omega arith), append_mul q (b / 2 ^ (g - suc p)) rs.f (top_bit g (suc p) b h))
      (pair_walk_is g (suc p) (i - parts (suc g) (suc p)) (b % 2 ^ (g - suc p)) (l ∷ w) (q * 2 + b / 2 ^ (g - suc p)) rs
      (mod-lt b (pow_pos (g - suc p))))
]

last_turn : (t : Pair) → turn t 1 ≡ shift t.f t
unfolding turn shift
last_turn t = rw (Ring.one_mul 2 (le_refl 2))

pub build_walk : (n k r : ℕ) → 1 ≤ k → r < block_size n k → build (block_at n k r) ≡ pair_in n k r
unfolding build pair_in walk_in
build_walk n k r pos h =
    ap (λ qs. turn (turns start qs) 1) (block_at_walk n k r pos h)
    ∙ ap (λ t. turn t 1) (sym (rw (Ring.one_mul 2 (le_refl 2)) at (pair_walk_is (n - 1) (k - 1) (c / M) (c % M) w 1 start small)))
    ∙ last_turn _
  where
    M : ℕ
    M = 2 ^ (n - k)

    c : ℕ
    c = r / count s10 k

    w : List Bool
    w = word_at s10 k (r % count s10 k)

    small : c % M < 2 ^ (n - 1 - (k - 1))
    small = let e : n - 1 - (k - 1) ≡ n - k = omega arith in rw e (mod-lt c (pow_pos (n - k)))

pub pair_at_walk : (n j : ℕ) (none : Pair) → j < length (pairs n) → get_or (pairs n) j none ≡ pair_at n j
unfolding pair_at sequence_at
pair_at_walk n j none h =
    pair_at_is n j none h
    ∙ seek_map (block_size n) build (block_at n) (pair_in n) [] start 2 (n - 1) j (λ k r le. build_walk n k r (omega arith))
    (rw length_blocks at h)
