-- The odd binary codes by their halves, and the table's sets: which codes their members are.
use Prim.Native.Nat.{ℕ, zero, suc, ◌+◌, ◌-◌, ◌*◌, ◌/◌, ◌%◌, ◌^◌, ◌≤◌, ◌<◌}
use native.Mathlib.Nat.{pow-suc, pow-le-pow_right, le_refl, lt_of_lt_of_le}
use native.Mathlib.Omega.{arith}
use mathlib.Core.Bool.{Bool, false, cond, not, ◌&&◌}
use mathlib.Core.List.{List, map}
use mathlib.Core.Path.{◌≡◌, refl, ap, ◌∙◌}
use lib.Bits.{bit_and}
use lib.Dec.{eqb, lit<}
use lib.ListN.{length, get_or}
use lib.Pow.{pow_pos}
use Rattle.loops.specs.Loops.{numbers, filter}
use Rattle.loops.proofs.Loops.{listed_numbers, listed_map}
use Rattle.poly.specs.Code.{degree, HasDegree}
use Rattle.poly.specs.Coprime.{gcd}
use Rattle.poly.specs.Limits.{outside}
use Rattle.poly.proofs.Leading
use Rattle.poly.proofs.Ranges.{inside}
use Rattle.codes.specs.Sets.{set_of, members}
use Rattle.codes.specs.Codes.{monic_codes, coprime, coprime_set, from_half, coprimes_of}
use Rattle.codes.specs.Inner.{InTable}
use Rattle.codes.proofs.Sets.{members_pass, set_lt, set_bit, set_both}
use Rattle.codes.proofs.Codes.{coprime_binary}

-- half of the least code of degree n, and the code at an index
abbrev pub least : ℕ → ℕ
least n = 2 ^ (n - 1)

abbrev pub code_at : ℕ → ℕ → ℕ
code_at n k = from_half (least n + k)

odd : ℕ → Bool
odd code = not (eqb (code % 2) 0)

-- the odd ones of 2m numbers from 2(c + d) on
odd_numbers : (c d m : ℕ) → filter odd (numbers ((c + d) * 2) (m * 2)) ≡ map (λ k. from_half (c + k)) (numbers d m)
unfolding odd
odd_numbers c d zero = refl
odd_numbers c d (suc m) =
    let two : suc m * 2 ≡ suc (suc (m * 2)) = omega arith in
    let even : (c + d) * 2 % 2 ≡ 0 = omega arith in
    let bit : suc ((c + d) * 2) % 2 ≡ 1 = omega arith in
    let next : suc (suc ((c + d) * 2)) ≡ (c + suc d) * 2 = omega arith in
    let code : suc ((c + d) * 2) ≡ 2 * (c + d) + 1 = omega arith in
    rw (two, even, bit, next, code, odd_numbers c (suc d) m)

module _ (n : ℕ) (low : 1 ≤ n) where
  pub doubled : 2 ^ n ≡ least n * 2
  doubled = let e : n ≡ suc (n - 1) = omega arith in ap (λ (k : ℕ). 2 ^ k) e ∙ pow-suc 2 (n - 1)

  pub codes_odd : monic_codes 2 n ≡ map (code_at n) (numbers 0 (least n))
  unfolding monic_codes odd
  codes_odd =
      let begin : 2 ^ n ≡ (least n + 0) * 2 = omega (arith, doubled) in
      ap (λ (l : List ℕ). filter odd l) (ap (λ (a : ℕ). numbers a (2 ^ n)) begin ∙ ap (numbers ((least n + 0) * 2)) doubled)
      ∙ odd_numbers (least n) 0 (least n)

-- The odd code with this half has degree n, which is one of the table's.
pub record Half (n half : ℕ) : Type 0 where
  pub low : 1 ≤ n
  pub high : n ≤ 6
  pub from : least n ≤ half
  pub below : half < 2 ^ n

-- And so has the code at an index.
pub half_at : {n half k : ℕ} → Half n half → k < least n → Half n (least n + k)
half_at {n} {half} {k} code h =
    record { low = code.low; high = code.high; from = omega arith; below = omega (arith, doubled n code.low) }

module _ {n half : ℕ} (code : Half n half) where
  pub half_lt : half < 64
  half_lt =
      let top : 2 ^ n ≤ 2 ^ 6 = pow-le-pow_right (lit< tt) {i = n} {j = 6} code.high in
      omega (arith, code.below)

  pub few : least n ≤ 32
  few = pow-le-pow_right (lit< tt) {i = n - 1} {j = 5} (omega (arith, code.high))

  in_table : outside 1 63 half ≡ false
  in_table = inside 1 63 (omega (arith, pow_pos (n - 1), code.from)) (omega (arith, half_lt))

  pub odd_degree : degree 2 (from_half half) ≡ n
  odd_degree =
      let has : HasDegree 2 n (from_half half) =
      record { low = omega (arith, doubled n code.low, code.from); high = omega (arith, pow-suc 2 n, code.below) } in
      Leading.degree_is 2 (le_refl 2) has

  set_of_lem : coprimes_of half ≡ set_of (coprime 2 (from_half half)) (map (code_at n) (numbers 0 (least n)))
  unfolding coprimes_of coprime_set
  set_of_lem = rw (in_table, odd_degree, codes_odd n code.low)

  pub coprime_members : map (code_at n) (members (coprimes_of half)) ≡ filter (coprime 2 (from_half half)) (monic_codes 2 n)
  coprime_members = rw (set_of_lem, codes_odd n code.low) (members_pass (code_at n) (coprime 2 (from_half half)) (least n) few)

  pub set_below_lem : coprimes_of half < 2 ^ least n
  set_below_lem =
      let xs : List ℕ = map (code_at n) (numbers 0 (least n)) in
      let long : length xs ≡ least n = (listed_map (code_at n) 0 (listed_numbers 0 (least n))).long in
      rw set_of_lem (rw long at (set_lt (coprime 2 (from_half half)) xs))

  -- a set of indices of codes is a word
  pub set_fits : {set : ℕ} → set < 2 ^ least n → set < 2 ^ 32
  set_fits h = lt_of_lt_of_le h (pow-le-pow_right (lit< tt) {i = least n} {j = 32} few)

module _ {n half other : ℕ} (code : Half n half) (code' : Half n other) where
  pub both_members : map (code_at n) (members (bit_and (coprimes_of half) (coprimes_of other)))
      ≡ filter (λ h. coprime 2 (from_half half) h && coprime 2 (from_half other) h) (monic_codes 2 n)
  both_members =
      rw (
        set_of_lem code,
        set_of_lem code',
        codes_odd n code.low,
        set_both (coprime 2 (from_half half)) (coprime 2 (from_half other)) (map (code_at n) (numbers 0 (least n))),
      )
      (members_pass (code_at n) (λ h. coprime 2 (from_half half) h && coprime 2 (from_half other) h) (least n) (few code))

-- ---- codes that may stand at one of the table's degrees
module _ {n code : ℕ} (stands : InTable n code) where
  pub half_of : Half n (code / 2)
  half_of = record {
    low = stands.low;
    high = stands.high;
    from = omega (arith, doubled n stands.low, stands.degree_is.low);
    below = omega (arith, pow-suc 2 n, stands.degree_is.high);
  }

  whole : from_half (code / 2) ≡ code
  whole = omega (arith, stands.constant)

  pub index_lt : code / 2 - least n < least n
  index_lt = omega (arith, doubled n stands.low, half_of.from, half_of.below, pow_pos (n - 1))

  at_index : code_at n (0 + (code / 2 - least n)) ≡ code
  at_index = omega (arith, half_of.from, stands.constant)

-- The bit of one code in the set of another.
pub coprime_bit : {n f g : ℕ} → InTable n f → InTable n g
    → coprimes_of (f / 2) / 2 ^ (g / 2 - least n) % 2 ≡ cond (eqb (gcd 2 f g) 1) 1 0
coprime_bit {n} {f} {g} in_f in_g =
    let k : ℕ = g / 2 - least n in
    let xs : List ℕ = map (code_at n) (numbers 0 (least n)) in
    let listed = listed_map (code_at n) 0 (listed_numbers 0 (least n)) in
    let is : get_or xs k 0 ≡ g = listed.stands k (index_lt in_g) ∙ at_index in_g in
    rw (set_of_lem (half_of in_f), whole in_f, set_bit (coprime 2 f) xs k (rw listed.long (index_lt in_g)), is)
    (ap (λ (b : Bool). cond b 1 0) (coprime_binary f g (omega (arith, pow_pos n, in_f.degree_is.low))))
