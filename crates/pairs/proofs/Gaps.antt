-- The compositions that are left in a walk over the gaps, as code counts them: C(gaps, commas) of them, and of these the share with a comma
-- in the next gap comes first.
use Prim.Native.Nat.{ℕ, zero, suc, ◌+◌, ◌-◌, ◌*◌, ◌/◌, ◌^◌, ◌≤◌, ◌<◌}
use native.Mathlib.Numerals.{sub-one}
use native.Mathlib.Decide.{dec_lt}
use native.Mathlib.Omega.{arith}
use mathlib.Core.Path.{◌≡◌, sym}
use Rattle.pairs.specs.Counts.{choose}
use Rattle.pairs.proofs.Reciprocals.{share_exact}
use Rattle.pairs.proofs.Binomial.{choose_above, down_whole}
use Rattle.pairs.proofs.Compositions.{parts, parts_share, pascal}
use Rattle.pairs.proofs.Bounds.{choose_times_lt}

-- An index below the number of compositions left.
pub record Left (gaps commas index left : ℕ) : Type 0 where
  pub count : left ≡ choose gaps commas
  pub inside : index < left

module _ {gaps commas index left : ℕ} (l : Left gaps commas index left) where
  -- Only as many commas are left as there are gaps.
  pub commas_le : commas ≤ gaps
  commas_le = elim (dec_lt gaps commas) [
    | yes h ↦ absurd (omega (arith, choose_above gaps commas h, l.count, l.inside))
    | no h ↦ omega arith
  ]

  pub share_fits : gaps ≤ 30 → left * commas < 2 ^ 32
  share_fits h = rw l.count (choose_times_lt gaps commas h)

module _ (g p : ℕ) {index left : ℕ} (l : Left (suc g) p index left) where
  pub share_is : left * p / suc g ≡ parts (suc g) p
  share_is = rw l.count (sym (parts_share g p))

  pub after_plus : left * p / suc g ≤ index → Left g p (index - left * p / suc g) (left - left * p / suc g)
  after_plus h = record {
    count = omega (arith, share_is, l.count, pascal (suc g) p);
    inside = omega (arith, l.inside);
  }

-- The share is a whole number, so the multiple by the reciprocal gives it.
pub share_computed : (gaps commas : ℕ) {index left : ℕ} → Left gaps commas index left → 0 < gaps → gaps ≤ 30
    → left * commas * (2 ^ 32 / gaps + 1) / 2 ^ 32 ≡ left * commas / gaps
share_computed gaps commas {index} {left} l pos few =
    share_exact (left * commas) gaps pos (rw l.count (down_whole gaps commas pos)) (share_fits l few)

-- A comma is one of those left, a plus leaves enough gaps, and the share is no more than all.
pub comma_left : (gaps commas : ℕ) {index left : ℕ} → Left gaps commas index left → 0 < gaps → index < left * commas / gaps → 1 ≤ commas
comma_left zero commas l pos h = absurd (omega arith)
comma_left (suc g) zero l pos h = absurd (omega (arith, share_is g 0 l))
comma_left (suc g) (suc p) l pos h = omega arith

pub plus_left : (gaps commas : ℕ) {index left : ℕ} → Left gaps commas index left → 0 < gaps → left * commas / gaps ≤ index
    → commas ≤ gaps - 1
plus_left zero commas l pos h = absurd (omega arith)
plus_left (suc g) commas l pos h = rw sub-one (commas_le (after_plus g commas l h))

pub share_le : (gaps commas : ℕ) {index left : ℕ} → Left gaps commas index left → 0 < gaps → left * commas / gaps ≤ left
share_le zero commas l pos = absurd (omega arith)
share_le (suc g) commas l pos = omega (arith, share_is g commas l, l.count, pascal (suc g) commas)
