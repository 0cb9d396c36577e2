-- The readers meet their contracts: a word is its first letter and a word that leads on from the next state.
use mathlib.Core.Bool.{true, false}
use mathlib.Core.Path.{◌≡◌, sym, ◌∙◌}
use Prim.Native.Nat.{ℕ, ◌+◌, ◌-◌, ◌*◌, ◌/◌, ◌%◌, ◌^◌, ◌≤◌, ◌<◌}
use native.Mathlib.Nat.{pos_of_ne-zero, zero-add, zero-mul, mul-zero, mul-one, sub-zero}
use native.Mathlib.Decide.{dec_lt}
use native.Mathlib.Omega.{arith}
use borrow.Author.Tests.{lt-leb, le-leb}
use mir.Val.{bool_byte}
use lib.Dec.{leb}
use lib.ListN.{length}
use lib.Pow.{pow_mono}
use Rattle.poly.proofs.Shifts.{one_shl}
use Rattle.pairs.specs.Words.{State, s10, s11, s01, step, words_from}
use Rattle.pairs.proofs.Reading.{
  number_at,
  number_at_lt,
  number_at_none,
  rest_fits,
  first_0,
  first_1,
  from10_two,
  from11_two,
  from01_one,
}
use Rattle.pairs.proofs.Shares.{Shares, power, shares01, fits10, shares10, fits11, shares11}
use Rattle.pairs.proofs.readers.+readers.Goals as goal

-- at the test of the index, with z words that begin with 0 and o that begin with 1
record Here (s : State) (t m i z o : ℕ) : Type 0 where
  measure : m ≡ t
  pos : 0 < m
  few : m ≤ 31
  fits : i < length (words_from s m)
  shares : Shares s m z o

module _ {s : State} {t m i z o : ℕ} (h : Here s t m i z o) where
  asks_0 : i < z → (m - 1 < t) × ((m - 1 ≤ 31) × ((z ≡ length (words_from (step s false) (m - 1))) × (i < z)))
  asks_0 l = (omega arith, (omega arith, (h.shares.zeros, l)))

  asks_1 : z ≤ i → (m - 1 < t) × ((m - 1 ≤ 31) × ((o ≡ length (words_from (step s true) (m - 1))) × (i - z < o)))
  asks_1 l =
      let rest = rest_fits s m i z h.pos h.fits h.shares.zeros l in
      (omega arith, (omega arith, (h.shares.ones, rw h.shares.ones rest)))

  gives-0 : {x : ℕ} → i < z → x ≡ number_at (step s false) (m - 1) i → x ≡ number_at s m i
  gives-0 l e = e ∙ first_0 s m i z h.pos h.fits h.shares.zeros l

  module _ {x : ℕ} (l : z ≤ i) (e : x ≡ number_at (step s true) (m - 1) (i - z)) where
    sum_fits : 1 * 2 ^ (m - 1) % 2 ^ 32 + x < 2 ^ 32
    sum_fits =
        let low : x < 2 ^ (m - 1) =
        rw e (number_at_lt (step s true) (m - 1) (i - z) (rest_fits s m i z h.pos h.fits h.shares.zeros l)) in
        rw (one_shl 32 (m - 1) (omega arith)) (omega (arith, pow_mono {i = m - 1} {j = 30} (omega arith)))

    gives-1 : 1 * 2 ^ (m - 1) % 2 ^ 32 + x ≡ number_at s m i
    gives-1 = rw (one_shl 32 (m - 1) (omega arith), e) (first_1 s m i z h.pos h.fits h.shares.zeros l)

-- from (0,1) the letter is a number, and half of the words begin with each
data Letter (half i letter : ℕ) : Type 0 where
  zero-letter : letter ≡ 0 → i < half → Letter half i letter
  one_letter : letter ≡ 1 → half ≤ i → Letter half i letter

letter_of : (half i : ℕ) → Letter half i (bool_byte (leb half i))
letter_of half i = elim (dec_lt i half) [
  | yes h ↦ zero-letter (rw (lt-leb half i h)) h
  | no h ↦ one_letter (rw (le-leb half i (omega arith))) (omega arith)
]

small : {half i letter : ℕ} → Letter half i letter → letter ≤ 1
small (zero-letter e l) = omega arith
small (one_letter e l) = omega arith

nothing : (k x : ℕ) → 0 * 2 ^ k % 2 ^ 32 + x ≡ x
nothing k x = rw (zero-mul (2 ^ k)) (zero-add x)

module _ {t m i half : ℕ} (h : Here s01 t m i half half) where
  abbrev Asks : ℕ → Type 0
  Asks j = (m - 1 < t) × ((m - 1 ≤ 31) × ((half ≡ length (words_from s10 (m - 1))) × (j < half)))

  before-le : {letter : ℕ} → Letter half i letter → half * letter ≤ i
  before-le (zero-letter e l) = rw (e, mul-zero half) (omega arith)
  before-le (one_letter e l) = rw (e, mul-one half) l

  asks : {letter : ℕ} → Letter half i letter → Asks (i - half * letter)
  asks (zero-letter e l) = rw (e, mul-zero half, sub-zero i) (asks_0 h l)
  asks (one_letter e l) = rw (e, mul-one half) (asks_1 h l)

  letter-fits : {letter x : ℕ} → Letter half i letter → x ≡ number_at s10 (m - 1) (i - half * letter)
      → letter * 2 ^ (m - 1) % 2 ^ 32 + x < 2 ^ 32
  letter-fits {x = x} (zero-letter e l) is =
      let low : x < 2 ^ (m - 1) =
      rw (is, e, mul-zero half, sub-zero i) (number_at_lt s10 (m - 1) i (rw h.shares.zeros at l)) in
      rw (e, nothing (m - 1) x) (omega (arith, h.few, pow_mono {i = m - 1} {j = 30} (omega (arith, h.few))))
  letter-fits (one_letter e l) is = rw e (sum_fits h l (rw (e, mul-one half) at is))

  gives : {letter x : ℕ} → Letter half i letter → x ≡ number_at s10 (m - 1) (i - half * letter)
      → letter * 2 ^ (m - 1) % 2 ^ 32 + x ≡ number_at s01 m i
  gives {x = x} (zero-letter e l) is =
      rw (e, nothing (m - 1) x) (gives-0 h l (rw (e, mul-zero half, sub-zero i) at is))
  gives (one_letter e l) is = rw e (gives-1 h l (rw (e, mul-one half) at is))

-- what a reader is given
record Given (s : State) (t m i count : ℕ) : Type 0 where
  measure : m ≡ t
  few : m ≤ 31
  long : count ≡ length (words_from s m)
  inside : i < count

given : (s : State) {t m i count : ℕ} → m ≡ t → m ≤ 31 → count ≡ length (words_from s m) → i < count → Given s t m i count
given s e few long l = record { measure = e; few = few; long = long; inside = l }

fit : (s : State) {t m i count : ℕ} → Given s t m i count → i < length (words_from s m)
fit s g = rw g.long at g.inside

here : (s : State) {t m i count : ℕ} (z o : ℕ) → Given s t m i count → 0 < m → Shares s m z o → Here s t m i z o
here s z o g pos shares =
    record { measure = g.measure; pos = pos; few = g.few; fits = fit s g; shares = shares }

module _ {t m i count : ℕ} (g : Given s01 t m i count) where
  one : 1 ≤ m
  one = from01_one m i (fit s01 g)

  here01 : Here s01 t m i (count / 2) (count / 2)
  here01 = here s01 _ _ g one (shares01 m count one g.long)

module _ {t m i count : ℕ} (g : Given s11 t m i count) where
  two11 : 2 ≤ m
  two11 = from11_two m i (fit s11 g)

  here11 : Here s11 t m i (power m - count) (count - (power m - count))
  here11 = here s11 _ _ g (omega (arith, two11)) (shares11 m count g.few two11 g.long)

module _ {t m i count : ℕ} (pos : 1 ≤ m) (g : Given s10 t m i count) where
  two10 : 2 ≤ m
  two10 = from10_two m i pos (fit s10 g)

  here10 : Here s10 t m i (count - (power m - count)) (power m - count)
  here10 = here s10 _ _ g pos (shares10 m count g.few two10 g.long)

pub from01-overflow_sub-rest : goal.from01-overflow_sub-rest
from01-overflow_sub-rest t c =
    let g = given s01 c.decreases c.requires.m_bound c.requires.count_value c.requires.i_lt_count in
    one g

pub from01-from10-requires : goal.from01-from10-requires
from01-from10-requires t c =
    let g = given s01 c.decreases c.requires.m_bound c.requires.count_value c.requires.i_lt_count in
    asks (here01 g) (letter_of _ c.args.i)

pub from01-overflow_add-result : goal.from01-overflow_add-result
from01-overflow_add-result t c =
    let g = given s01 c.decreases c.requires.m_bound c.requires.count_value c.requires.i_lt_count in
    record { fits = letter-fits (here01 g) (letter_of _ c.args.i) c.from10.ensures }

pub from01-returns : goal.from01-returns
from01-returns t c =
    let g = given s01 c.decreases c.requires.m_bound c.requires.count_value c.requires.i_lt_count in
    gives (here01 g) (letter_of _ c.args.i) c.from10.ensures

pub from10-returns-then-m-eq0 : goal.from10-returns-then-m-eq0
from10-returns-then-m-eq0 t c =
    let g = given s10 c.decreases c.requires.m_bound c.requires.count_value c.requires.i_lt_count in
    sym (number_at_none _ _ c.if-m-eq0.true (fit s10 g))

pub from10-overflow_sub-ones : goal.from10-overflow_sub-ones
from10-overflow_sub-ones t c =
    let g = given s10 c.decreases c.requires.m_bound c.requires.count_value c.requires.i_lt_count in
    (fits10 _ _ c.requires.m_bound (two10 (pos_of_ne-zero c.if-m-eq0.false) g) c.requires.count_value).0

pub from10-overflow_sub-zeros : goal.from10-overflow_sub-zeros
from10-overflow_sub-zeros t c =
    let g = given s10 c.decreases c.requires.m_bound c.requires.count_value c.requires.i_lt_count in
    (fits10 _ _ c.requires.m_bound (two10 (pos_of_ne-zero c.if-m-eq0.false) g) c.requires.count_value).1

pub from10-from01-requires : goal.from10-from01-requires
from10-from01-requires t c =
    let g = given s10 c.decreases c.requires.m_bound c.requires.count_value c.requires.i_lt_count in
    asks_0 (here10 (pos_of_ne-zero c.if-m-eq0.false) g) c.if-i-zeros.true

pub from10-returns-then-i-zeros : goal.from10-returns-then-i-zeros
from10-returns-then-i-zeros t c =
    let g = given s10 c.decreases c.requires.m_bound c.requires.count_value c.requires.i_lt_count in
    gives-0 (here10 (pos_of_ne-zero c.if-m-eq0.false) g) c.if-i-zeros.true c.from01.ensures

pub from10-from11-requires : goal.from10-from11-requires
from10-from11-requires t c =
    let g = given s10 c.decreases c.requires.m_bound c.requires.count_value c.requires.i_lt_count in
    asks_1 (here10 (pos_of_ne-zero c.if-m-eq0.false) g) c.if-i-zeros.false

pub from10-overflow_add-result : goal.from10-overflow_add-result
from10-overflow_add-result t c =
    let g = given s10 c.decreases c.requires.m_bound c.requires.count_value c.requires.i_lt_count in
    record { fits = sum_fits (here10 (pos_of_ne-zero c.if-m-eq0.false) g) c.if-i-zeros.false c.from11.ensures }

pub from10-returns : goal.from10-returns
from10-returns t c =
    let g = given s10 c.decreases c.requires.m_bound c.requires.count_value c.requires.i_lt_count in
    gives-1 (here10 (pos_of_ne-zero c.if-m-eq0.false) g) c.if-i-zeros.false c.from11.ensures

pub from11-overflow_sub-rest : goal.from11-overflow_sub-rest
from11-overflow_sub-rest t c =
    let g = given s11 c.decreases c.requires.m_bound c.requires.count_value c.requires.i_lt_count in
    omega (arith, two11 g)

pub from11-overflow_sub-zeros : goal.from11-overflow_sub-zeros
from11-overflow_sub-zeros t c =
    let g = given s11 c.decreases c.requires.m_bound c.requires.count_value c.requires.i_lt_count in
    (fits11 _ _ c.requires.m_bound (two11 g) c.requires.count_value).0

pub from11-from11-requires : goal.from11-from11-requires
from11-from11-requires t c =
    let g = given s11 c.decreases c.requires.m_bound c.requires.count_value c.requires.i_lt_count in
    asks_0 (here11 g) c.if-i-zeros.true

pub from11-returns-then-i-zeros : goal.from11-returns-then-i-zeros
from11-returns-then-i-zeros t c =
    let g = given s11 c.decreases c.requires.m_bound c.requires.count_value c.requires.i_lt_count in
    gives-0 (here11 g) c.if-i-zeros.true c.from11.ensures

pub from11-from01-requires : goal.from11-from01-requires
from11-from01-requires t c =
    let g = given s11 c.decreases c.requires.m_bound c.requires.count_value c.requires.i_lt_count in
    asks_1 (here11 g) c.if-i-zeros.false

pub from11-overflow_add-result : goal.from11-overflow_add-result
from11-overflow_add-result t c =
    let g = given s11 c.decreases c.requires.m_bound c.requires.count_value c.requires.i_lt_count in
    record { fits = sum_fits (here11 g) c.if-i-zeros.false c.from01.ensures }

pub from11-returns : goal.from11-returns
from11-returns t c =
    let g = given s11 c.decreases c.requires.m_bound c.requires.count_value c.requires.i_lt_count in
    gives-1 (here11 g) c.if-i-zeros.false c.from01.ensures
