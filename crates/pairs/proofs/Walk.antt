-- A block's sequence by a walk over the gaps, for code that keeps no table of degrees: a quotient starts as 1, a plus appends its next
-- intermediate bit, and a comma or the end appends its letter. By induction on the gaps left.
use Prim.Native.Nat.{ℕ, zero, suc, ◌+◌, ◌-◌, ◌*◌, ◌/◌, ◌%◌, ◌^◌, ◌≤◌, ◌<◌}
use native.Mathlib.Nat.{
  pow-suc,
  pow-succ',
  mul_assoc,
  add-mul,
  one-mul,
  mod-lt,
  div-eq_of_lt,
  mod-eq_of_lt,
  add_comm,
  add-zero,
  suc-sub-suc,
  zero-mul,
}
use native.Mathlib.Numerals.{sub-one}
use native.Mathlib.Decide.{dec_lt}
use native.Mathlib.Omega.{arith}
use mathlib.Core.Path.{◌≡◌, refl, sym, ap, ap₂, ◌∙◌}
use mathlib.Core.Bool.{Bool, cond}
use mathlib.Core.List.{List, [], ◌∷◌}
use lib.ListN.{length}
use lib.Dec.{ltb}
use lib.Arith.{lt-one}
use lib.Pow.{pow_pos, split, shr-shr, field, mod-mod-pow}
use borrow.Author.Tests.{lt-ltb, le-ltb}
use Rattle.pairs.specs.Sequences.{bits, bit, quotients}
use Rattle.pairs.specs.Words.{s10}
use Rattle.pairs.proofs.Compositions.{parts, pascal, longer, composition_at, CompositionAt, composition_at_known}
use Rattle.pairs.proofs.Words.{count, word_at, word_at_known}
use Rattle.pairs.proofs.Quotients.{bits_total}
use Rattle.pairs.proofs.Blocks.{block_size, block_at, word_index, composition_index}

-- g gaps are left, p commas among them. i is the index of what is left of the composition, b its intermediate bits, w its letters, and q
-- the quotient so far.
abbrev pub walk : ℕ → ℕ → ℕ → ℕ → List Bool → ℕ → List ℕ
walk zero p i b [] q = []
walk zero p i b (l ∷ w) q = (q * 2 + bit l) ∷ []
walk (suc g) p i b [] q = []
walk (suc g) p i b (l ∷ w) q =
    let comma : List ℕ = (q * 2 + bit l) ∷ walk g (p - 1) i b w 1 in
    let plus : List ℕ = walk g p (i - parts (suc g) p) (b % 2 ^ (g - p)) (l ∷ w) (q * 2 + b / 2 ^ (g - p)) in
    cond (ltb i (parts (suc g) p)) comma plus

-- The quotients of these degrees, bits and letters, the first of which begins with q instead of 1.
abbrev pub leading : ℕ → List ℕ → ℕ → List Bool → List ℕ
leading q [] b w = []
leading q (d ∷ ds) b [] = []
leading q (d ∷ ds) b (l ∷ w) = (q * 2 ^ d + b / 2 ^ bits ds * 2 + bit l) ∷ quotients ds (b % 2 ^ bits ds) w

pub leading_one : (ds : List ℕ) (b : ℕ) (w : List Bool) → leading 1 ds b w ≡ quotients ds b w
leading_one [] b w = refl
leading_one (d ∷ ds) b [] = refl
leading_one (d ∷ ds) b (l ∷ w) = rw one-mul

-- A composition of g + 1 into p + 1 parts leaves g - p bits.
room : (g p i : ℕ) (ds : List ℕ) → CompositionAt (suc g) (suc p) i ds → bits ds ≡ g - p
room g p i ds c = omega (arith, bits_total ds c.positive, c.long, c.total)

plus_one : (q b d : ℕ) (ds : List ℕ) (l : Bool) (w : List Bool)
    → leading q (suc (suc d) ∷ ds) b (l ∷ w)
    ≡ leading (q * 2 + b / 2 ^ (d + bits ds)) (suc d ∷ ds) (b % 2 ^ (d + bits ds)) (l ∷ w)
plus_one q b d ds l w = ap₂ ◌∷◌ (omega (arith, top, own)) (ap (λ v. quotients ds v w) (sym (mod-mod-pow b d B)))
  where
    B : ℕ
    B = bits ds

    high : ℕ
    high = b / 2 ^ (d + B)

    top : (q * 2 + high) * 2 ^ suc d ≡ q * 2 ^ suc (suc d) + high * 2 ^ d * 2
    top = rw (add-mul, mul_assoc q 2 (2 ^ suc d), ← (pow-succ' 2 (suc d)), mul_assoc high (2 ^ d) 2, ← (pow-suc 2 d))

    own : b / 2 ^ B ≡ high * 2 ^ d + b % 2 ^ (d + B) / 2 ^ B
    own = rw (field b d B, add_comm d B, ← (shr-shr b B d)) (sym (split (b / 2 ^ B) d))

-- A comma or a plus before the composition at index i of g + 1 into p + 1 parts.
module _ (g p i q b : ℕ) (l : Bool) (w : List Bool) (h : i < parts (suc g) (suc p)) where
  comma_step : b < 2 ^ (g - p) → (q * 2 + bit l) ∷ leading 1 (composition_at (suc g) (suc p) i) b w
      ≡ leading q (1 ∷ composition_at (suc g) (suc p) i) b (l ∷ w)
  comma_step small = go (composition_at (suc g) (suc p) i) (composition_at_known (suc g) (suc p) i h)
    where
      go : (ds : List ℕ) → CompositionAt (suc g) (suc p) i ds → (q * 2 + bit l) ∷ leading 1 ds b w ≡ leading q (1 ∷ ds) b (l ∷ w)
      go ds c = let small' : b < 2 ^ bits ds = rw (room g p i ds c) small in
          rw (div-eq_of_lt small', mod-eq_of_lt small', leading_one, add-zero)

  plus_step : leading (q * 2 + b / 2 ^ (g - p)) (composition_at (suc g) (suc p) i) (b % 2 ^ (g - p)) (l ∷ w)
      ≡ leading q (longer (composition_at (suc g) (suc p) i)) b (l ∷ w)
  plus_step = go (composition_at (suc g) (suc p) i) (composition_at_known (suc g) (suc p) i h)
    where
      go : (ds : List ℕ) → CompositionAt (suc g) (suc p) i ds
          → leading (q * 2 + b / 2 ^ (g - p)) ds (b % 2 ^ (g - p)) (l ∷ w) ≡ leading q (longer ds) b (l ∷ w)
      go [] c = refl
      go (zero ∷ ds) c = absurd (omega (arith, c.positive.0))
      go (suc d ∷ ds) c =
          let e : g - p ≡ d + bits ds = omega (arith, room g p i (suc d ∷ ds) c) in
          rw e (sym (plus_one q b d ds l w))

pub walk_is : (g p i b : ℕ) (w : List Bool) (q : ℕ) → i < parts (suc g) (suc p) → b < 2 ^ (g - p) → length w ≡ suc p
    → walk g p i b w q ≡ leading q (composition_at (suc g) (suc p) i) b w
walk_is zero p i b [] q h k e = absurd (omega arith)
walk_is (suc g) p i b [] q h k e = absurd (omega arith)
walk_is zero zero i b (l ∷ w) q h k e = rw (lt-one h, lt-one k, add-zero)
walk_is zero (suc p) i b (l ∷ w) q h k e = absurd (omega arith)
walk_is (suc g) zero i b (l ∷ w) q h k e =
    let h' : i - 0 < parts (suc g) 1 = omega (arith, pascal (suc g) 0) in
    rw (le-ltb i 0 (omega arith))
    (walk_is g 0 (i - 0) (b % 2 ^ (g - 0)) (l ∷ w) (q * 2 + b / 2 ^ (g - 0)) h' (mod-lt b (pow_pos (g - 0))) e
    ∙ plus_step g 0 (i - 0) q b l w h')
walk_is (suc g) (suc p) i b (l ∷ w) q h k e = elim (dec_lt i (parts (suc g) (suc p))) [
  | yes a ↦ let k' : b < 2 ^ (g - p) = rw suc-sub-suc at k in
      rw (lt-ltb i (parts (suc g) (suc p)) a, sub-one)
      (ap (◌∷◌ (q * 2 + bit l)) (walk_is g p i b w 1 a k' (omega arith)) ∙ comma_step g p i q b l w a k')
  | no a ↦ let i' : ℕ = i - parts (suc g) (suc p) in let h' : i' < parts (suc g) (suc (suc p)) = omega (arith, pascal (suc g) (suc p)) in
      rw (le-ltb i (parts (suc g) (suc p)) (omega arith))
      (walk_is g (suc p) i' (b % 2 ^ (g - suc p)) (l ∷ w) (q * 2 + b / 2 ^ (g - suc p)) h' (mod-lt b (pow_pos (g - suc p))) e
      ∙ plus_step g (suc p) i' q b l w h')
]

-- The sequence at place r of a block.
pub block_at_walk : (n k r : ℕ) → 1 ≤ k → r < block_size n k → block_at n k r
    ≡ walk (n - 1) (k - 1) (r / count s10 k / 2 ^ (n - k)) (r / count s10 k % 2 ^ (n - k)) (word_at s10 k (r % count s10 k)) 1
unfolding block_at block_size
block_at_walk n zero r pos h = absurd (omega arith)
block_at_walk zero (suc p) r pos h = absurd (omega (arith, zero-mul (2 ^ (0 - suc p) * count s10 (suc p))))
block_at_walk (suc g) (suc p) r pos h = sym
    (rw (sub-one, sub-one)
    (walk_is g p i b w 1 (composition_index (suc g) (suc p) r h) (rw (← (suc-sub-suc g p)) (mod-lt c (pow_pos (suc g - suc p))))
    (word_at_known s10 (suc p) (r % count s10 (suc p)) (word_index (suc g) (suc p) r h)).long
    ∙ leading_one (composition_at (suc g) (suc p) i) b w))
  where
    c : ℕ
    c = r / count s10 (suc p)

    i : ℕ
    i = c / 2 ^ (suc g - suc p)

    b : ℕ
    b = c % 2 ^ (suc g - suc p)

    w : List Bool
    w = word_at s10 (suc p) (r % count s10 (suc p))
