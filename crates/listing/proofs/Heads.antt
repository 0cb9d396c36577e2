-- The heads of a group by the walk over the gaps, turn by turn: whatever the entries still to come will be, once they give what is left of
-- the walk, all entries give the group's quotients.
use Prim.Native.Nat.{ℕ, zero, suc, ◌+◌, ◌-◌, ◌*◌, ◌/◌, ◌%◌, ◌^◌, ◌≤◌, ◌<◌}
use native.Mathlib.Nat.{mod-eq_of_lt, mod-lt, pow-suc, suc-sub-suc, lt_of_lt_of_le, le_refl, div-lt_iff_lt-mul}
use native.Mathlib.Numerals.{sub-one}
use native.Mathlib.Omega.{arith}
use mathlib.Core.Path.{◌≡◌, sym, ap, ap₂, ◌∙◌}
use mathlib.Core.Bool.{Bool}
use mathlib.Core.List.{List, [], ◌∷◌}
use lib.ListN.{length, get_or, set, length-set}
use lib.Seq.{get_or-set_same, get_or-set_other}
use lib.Pow.{pow_pos, pow_mono, field, mod-mod-pow}
use borrow.Author.Tests.{lt-ltb, le-ltb}
use Rattle.pairs.specs.Sequences.{bit, compositions}
use Rattle.listing.specs.Filling.{lettered, group, HeadsOf}
use Rattle.pairs.proofs.Compositions.{parts, composition_at, listed_compositions, compositions_count}
use Rattle.pairs.proofs.Gaps.{Left, commas_le, share_is, after_plus}
use Rattle.pairs.proofs.Walk.{walk, leading_one, walk_is}

-- Between two turns: entries above the number of commas left are made.
pub record Between (n k i : ℕ) (heads : List ℕ) (index left gaps commas head : ℕ) : Type 0 where
  pub few : n ≤ 31
  pub gap : gaps < n
  pub size : length heads ≡ 32
  pub choices : Left gaps commas index left
  pub head_lt : head < 2 ^ (n - gaps)
  pub reaches : (made : List ℕ) → ((j : ℕ) → commas < j → get_or made j 0 ≡ get_or heads j 0)
      → ((w : List Bool) → length w ≡ suc commas
      → lettered made (suc commas) w ≡ walk gaps commas index (i % 2 ^ (gaps - commas)) w head)
      → HeadsOf n k i made

-- The walk over all gaps gives the quotients of a group.
walk_group : (n k i : ℕ) → 1 ≤ k → 1 ≤ n → i / 2 ^ (n - k) < parts n k → (w : List Bool) → length w ≡ k
    → walk (n - 1) (k - 1) (i / 2 ^ (n - k)) (i % 2 ^ (n - 1 - (k - 1))) w 1 ≡ group n k i w
unfolding group
walk_group zero k i pos some h w e = absurd (omega arith)
walk_group (suc g) zero i pos some h w e = absurd (omega arith)
walk_group (suc g) (suc p) i pos some h w e =
    let index : ℕ = i / 2 ^ (suc g - suc p) in
    rw (sub-one, sub-one)
    (walk_is g p index (i % 2 ^ (g - p)) w 1 h (mod-lt i (pow_pos (g - p))) e
    ∙ leading_one (composition_at (suc g) (suc p) index) (i % 2 ^ (g - p)) w
    ∙ rw ((listed_compositions (suc g) (suc p)).stands index h, suc-sub-suc g p))

pub begins : (n k count i : ℕ) (heads : List ℕ) → 2 ≤ k → k ≤ n → n ≤ 31 → count ≡ length (compositions n k) → i < count * 2 ^ (n - k)
    → length heads ≡ 32 → Between n k i heads (i / 2 ^ (n - k)) count (n - 1) (k - 1) 1
begins n k count i heads two le few is fits size = record {
  few = few;
  gap = omega arith;
  size = size;
  choices = record { count = is ∙ compositions_count n k (omega arith) (omega arith); inside = inside };
  head_lt = let one : n - (n - 1) ≡ 1 = omega arith in rw one (omega arith);
  reaches = λ made agree gives. record {
    give = λ w e.
        ap (λ v. lettered made v w) (sym up) ∙ gives w (e ∙ sym up)
        ∙ walk_group n k i (omega arith) (omega arith) (rw (sym (listed_compositions n k).long ∙ sym is) inside) w e;
  };
}
  where
    up : suc (k - 1) ≡ k
    up = omega arith

    inside : i / 2 ^ (n - k) < count
    inside = (div-lt_iff_lt-mul (pow_pos (n - k))).1 fits

module _ {n k i : ℕ} {heads : List ℕ} where
  pub commas_lt : {index left gaps commas head : ℕ} → Between n k i heads index left gaps commas head → commas < 31
  commas_lt b = omega (arith, commas_le b.choices, b.few, b.gap)

  module _ (g p : ℕ) {index left head : ℕ} (b : Between n k i heads index left (suc g) p head) where
    -- One gap less leaves room for one digit more.
    room : n - g ≡ suc (n - suc g)
    room = omega (arith, b.gap)

    small : head < 2 ^ 30
    small = lt_of_lt_of_le b.head_lt (pow_mono {i = n - suc g} {j = 30} (omega (arith, b.few)))

    grown : head * 2 % 2 ^ 32 ≡ head * 2
    grown = mod-eq_of_lt (omega (arith, small))

    grown_lt : (x : ℕ) → x < 2 → head * 2 + x < 2 ^ (n - g)
    grown_lt x l = rw room (omega (arith, b.head_lt, pow-suc 2 (n - suc g)))

  pub head_fits : (gaps commas : ℕ) {index left head : ℕ} → Between n k i heads index left gaps commas head → 0 < gaps → (x : ℕ) → x < 2
      → head * 2 % 2 ^ 32 + x < 2 ^ 32
  head_fits zero commas b pos x l = absurd (omega arith)
  head_fits (suc g) commas b pos x l = rw (grown g commas b) (omega (arith, small g commas b))

  pub comma_turn : (gaps commas : ℕ) {index left head : ℕ} → Between n k i heads index left gaps commas head → 0 < gaps
      → index < left * commas / gaps
      → Between n k i (set heads commas head) index (left * commas / gaps) (gaps - 1) (commas - 1) 1
  comma_turn zero commas b pos h = absurd (omega arith)
  comma_turn (suc g) zero b pos h = absurd (omega (arith, share_is g 0 b.choices))
  comma_turn (suc g) (suc p) {index} {left} {head} b pos h =
      rw (sub-one, sub-one)
      (record {
        few = b.few;
        gap = omega (arith, b.gap);
        size = length-set heads (suc p) head ∙ b.size;
        choices = record { count = share_is g (suc p) b.choices; inside = h };
        head_lt = rw (room g (suc p) b) (omega (arith, pow-suc 2 (n - suc g), pow_pos (n - suc g)));
        reaches = λ made agree gives.
            b.reaches made (λ j l. agree j (omega arith) ∙ get_or-set_other heads (suc p) j head 0 (λ e. omega arith))
            (λ w e. ends made agree gives w e);
      })
    where
      ends : (made : List ℕ) → ((j : ℕ) → p < j → get_or made j 0 ≡ get_or (set heads (suc p) head) j 0)
          → ((w : List Bool) → length w ≡ suc p → lettered made (suc p) w ≡ walk g p index (i % 2 ^ (g - p)) w 1)
          → (w : List Bool) → length w ≡ suc (suc p)
          → lettered made (suc (suc p)) w ≡ walk (suc g) (suc p) index (i % 2 ^ (suc g - suc p)) w head
      ends made agree gives [] e = absurd (omega arith)
      ends made agree gives (l ∷ w) e =
          rw (lt-ltb index (parts (suc g) (suc p)) (rw (share_is g (suc p) b.choices) at h), sub-one, suc-sub-suc g p)
          (ap₂ (λ (v : ℕ) (qs : List ℕ). (v * 2 + bit l) ∷ qs)
          (agree (suc p) (le_refl (suc p)) ∙ get_or-set_same heads (suc p) head 0 (omega (arith, b.size, commas_lt b)))
          (gives w (omega arith)))

  pub plus_turn : (gaps commas : ℕ) {index left head : ℕ} → Between n k i heads index left gaps commas head → 0 < gaps
      → left * commas / gaps ≤ index
      → Between n k i heads (index - left * commas / gaps) (left - left * commas / gaps) (gaps - 1) commas
      (head * 2 % 2 ^ 32 + i / 2 ^ (gaps - 1 - commas) % 2)
  plus_turn zero commas b pos h = absurd (omega arith)
  plus_turn (suc g) p {index} {left} {head} b pos h =
      rw (sub-one, grown g p b)
      (record {
        few = b.few;
        gap = omega (arith, b.gap);
        size = b.size;
        choices = after_plus g p b.choices h;
        head_lt = grown_lt g p b (i / 2 ^ (g - p) % 2) (omega arith);
        reaches = λ made agree gives. b.reaches made agree (λ w e. grows made gives w e);
      })
    where
      up : suc g - p ≡ 1 + (g - p)
      up = omega (arith, commas_le (after_plus g p b.choices h))

      grows : (made : List ℕ)
          → ((w : List Bool) → length w ≡ suc p
          → lettered made (suc p) w
          ≡ walk g p (index - left * p / suc g) (i % 2 ^ (g - p)) w (head * 2 + i / 2 ^ (g - p) % 2))
          → (w : List Bool) → length w ≡ suc p → lettered made (suc p) w ≡ walk (suc g) p index (i % 2 ^ (suc g - p)) w head
      grows made gives [] e = absurd (omega arith)
      grows made gives (l ∷ w) e =
          gives (l ∷ w) e
          ∙ sym (rw (
            le-ltb index (parts (suc g) p) (rw (share_is g p b.choices) at h),
            up,
            mod-mod-pow i 1 (g - p),
            field i 1 (g - p),
            share_is g p b.choices,
          ))

  pub finished : (gaps commas : ℕ) {index left head : ℕ} → Between n k i heads index left gaps commas head → gaps ≤ 0
      → HeadsOf n k i (set heads 0 head)
  finished (suc g) commas b h = absurd (omega arith)
  finished zero (suc p) b h = absurd (omega (arith, commas_le b.choices))
  finished zero zero {index} {left} {head} b h =
      b.reaches (set heads 0 head) (λ j l. get_or-set_other heads 0 j head 0 (λ e. omega arith)) (λ w e. last w e)
    where
      last : (w : List Bool) → length w ≡ 1 → lettered (set heads 0 head) 1 w ≡ walk 0 0 index (i % 2 ^ (0 - 0)) w head
      last [] e = absurd (omega arith)
      last (l ∷ w) e = ap (λ v. (v * 2 + bit l) ∷ []) (get_or-set_same heads 0 head 0 (omega (arith, b.size)))
