-- `seek_second` meets its contract: the members of both sets are the codes h of the triples that begin with f and g.
use Prim.Native.Nat.{ℕ, ◌+◌, ◌-◌, ◌*◌, ◌%◌, ◌^◌, ◌≤◌, ◌<◌}
use native.Mathlib.Omega.{arith}
use mathlib.Core.Path.{◌≡◌, ap, ap₂, ◌∙◌}
use lib.Bits.{bit_and, and_le_r}
use lib.Count.{ones, count_trailing_zeros}
use lib.ListN.{length, get_or}
use Rattle.codes.specs.Sets.{members}
use Rattle.poly.proofs.Shifts.{one_shl}
use Rattle.codes.specs.Codes.{from_half, coprimes_of}
use Rattle.codes.proofs.Halves.{least, code_at, Half, half_lt}
use Rattle.triples.specs.Triples.{none, beginning_with}
use Rattle.triples.proofs.Beginnings.{common}
use Rattle.triples.proofs.Finding.{found_first, some, in_both, third, found, passed}
use Rattle.triples.proofs.TripleList.seek_second.Invariants.{Kept}
use Rattle.triples.proofs.TripleList.seek_second.Goals as goal

-- a code with its half, of the table's degrees, is a word
double_fits : {n half : ℕ} → Half n half → 2 * half < 2 ^ 32
double_fits code = omega (arith, half_lt code)

odd_fits : {n half : ℕ} → Half n half → 2 * half + 1 < 2 ^ 32
odd_fits code = omega (arith, half_lt code)

shift : {n half : ℕ} → Half n half → 1 * 2 ^ (n - 1) % 2 ^ 32 ≡ least n
shift {n} code = one_shl 32 (n - 1) (omega (arith, code.high))

-- at the code g whose set is `of_second`
module _ {n half place first left rest of_second : ℕ} (k : Kept n half place first left rest)
    (second_is : of_second ≡ coprimes_of (1 * 2 ^ (n - 1) % 2 ^ 32 + count_trailing_zeros 32 left)) where
  is_both : bit_and first of_second ≡ common n half (count_trailing_zeros 32 left)
  is_both =
      ap₂ bit_and k.first_is
      (second_is ∙ ap (λ (l : ℕ). coprimes_of (l + count_trailing_zeros 32 left)) (shift k.finding.code))

  inside : rest < ones (bit_and first of_second) → rest < length (members (bit_and first of_second))
  inside = in_both k.finding _ is_both

  -- the code h that is found
  last_half : {h : ℕ} → rest < ones (bit_and first of_second) → h ≡ get_or (members (bit_and first of_second)) rest 0
      → Half n (1 * 2 ^ (n - 1) % 2 ^ 32 + h)
  last_half lt is = rw (shift k.finding.code, is) (third k.finding _ is_both lt)

  here : rest < ones (bit_and first of_second)
      → record {
        f = from_half half;
        g = code_at n (count_trailing_zeros 32 left);
        h = code_at n (get_or (members (bit_and first of_second)) rest 0);
      }
      ≡ get_or (beginning_with n (from_half half)) place none
  here = found k.finding _ is_both

  further : ones (bit_and first of_second) ≤ rest
      → Kept n half place first (bit_and left (left - 1)) (rest - ones (bit_and first of_second))
  further le = record { finding = passed k.finding _ is_both le; first_is = k.first_is }

pub loop-rest-init : goal.loop-rest-init
loop-rest-init c =
    let a = c.args in
    let r = c.requires in
    let code : Half a.self.n a.half = record { low = omega arith; high = a.self.high; from = r.half_from; below = r.half_below } in
    record {
      finding = rw c.coprimes-first.ensures (found_first a.self.n a.half a.place code r.place_inside);
      first_is = c.coprimes-first.ensures;
    }

pub member-requires : goal.member-requires
member-requires c = inside c.loop-rest.invariant c.coprimes-of_second.ensures c.if-rest-size.true

pub overflow_add-third : goal.overflow_add-third
overflow_add-third c =
    let code = last_half c.loop-rest.invariant c.coprimes-of_second.ensures c.if-rest-size.true c.member.ensures in
    record { fits = omega (arith, half_lt code) }

pub overflow_mul-result-then-rest-size-2 : goal.overflow_mul-result-then-rest-size-2
overflow_mul-result-then-rest-size-2 c =
    record { fits = double_fits (last_half c.loop-rest.invariant c.coprimes-of_second.ensures c.if-rest-size.true c.member.ensures) }

pub overflow_add-result-then-rest-size-2 : goal.overflow_add-result-then-rest-size-2
overflow_add-result-then-rest-size-2 c =
    record { fits = odd_fits (last_half c.loop-rest.invariant c.coprimes-of_second.ensures c.if-rest-size.true c.member.ensures) }

pub returns-then-rest-size : goal.returns-then-rest-size
returns-then-rest-size c =
    let k = c.loop-rest.invariant in
    rw (shift k.finding.code, c.member.ensures) (here k c.coprimes-of_second.ensures c.if-rest-size.true)

pub overflow_sub-left : goal.overflow_sub-left
overflow_sub-left c = some c.loop-rest.invariant.finding

pub loop-rest-smaller : goal.loop-rest-smaller
loop-rest-smaller c =
    let left = c.loop-rest.left in
    omega (arith, and_le_r left (left - 1), some c.loop-rest.invariant.finding)

pub loop-rest-preserved : goal.loop-rest-preserved
loop-rest-preserved c = further c.loop-rest.invariant c.coprimes-of_second.ensures c.if-rest-size.false
