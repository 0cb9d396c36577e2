-- The field of two elements, as machine words do it: an output cell is the parity of the ones in the code and the shifted line, and the
-- symbol at a sum of sites, or of a row and a column, is the exclusive or of theirs.
use mathlib.Core.Path.{◌≡◌, refl, sym, ap, ap₂, ◌∙◌}
use Prim.Native.Nat.{ℕ, zero, suc, ◌+◌, ◌-◌, ◌*◌, ◌/◌, ◌%◌, ◌^◌, ◌<◌, min}
use native.Mathlib.Nat
use native.Mathlib.Nat.{le_refl, mod-lt, div-add-mod'}
use native.Mathlib.Decide.{dec_lt, ℕ_discrete}
use native.Mathlib.Omega.{arith}
use lib.Arith.{digits_div, digits_mod}
use lib.Bits.{bit_and, bit_xor, and_step, xor_self}
use lib.Count.{ones, ones_step}
use lib.ListN.{get_or}
use lib.Pow.{pow_pos}
use Rattle.poly.proofs.Ring
use Rattle.poly.proofs.Blocks
use Rattle.poly.proofs.Binary.{add_xor}
use Rattle.poly.specs.Code.{digit, add}
use Rattle.squares.specs.Symbols.{from_digits, sum_below, line, output_cell, symbol}
use Rattle.squares.specs.Lines.{parity, Moved}
use Rattle.squares.specs.Doubling.{at_site}
use Rattle.squares.proofs.Codes
use Rattle.squares.proofs.Places
use Rattle.squares.proofs.Middle
use Rattle.squares.proofs.Linear

bit_min : (d e : ℕ) → d < 2 → e < 2 → min d e ≡ d * e
bit_min zero e hd he = omega arith
bit_min (suc zero) e hd he = omega arith
bit_min (suc (suc d)) e hd he = absurd (omega arith)

ones_and_step : (a b : ℕ) → ones (bit_and a b) ≡ a % 2 * (b % 2) + ones (bit_and (a / 2) (b / 2))
ones_and_step a b =
    let high : ℕ = bit_and (a / 2) (b / 2) in
    let low : ℕ = min (a % 2) (b % 2) in
    let low_lt : low < 2 = omega arith in
    ap ones (and_step a b) ∙ ones_step (high * 2 + low)
    ∙ ap₂ (λ (u v : ℕ). u + ones v)
    (digits_mod high low_lt ∙ bit_min (a % 2) (b % 2) (mod-lt a (omega arith)) (mod-lt b (omega arith))) (digits_div high low_lt)

-- the ones that two numbers share, from their k low bits h and c, where the first has no others
ones_and : (k : ℕ) {a : ℕ} (b : ℕ) (h c : ℕ → ℕ) → a < 2 ^ k → ((j : ℕ) → j < k → h j ≡ digit 2 a j)
    → ((j : ℕ) → j < k → c j ≡ digit 2 b j) → ones (bit_and a b) ≡ sum_below k (λ j. h j * c j)
unfolding ones
ones_and zero {a} b h c lt e e' = let none : a ≡ 0 = omega arith in rw none
ones_and (suc k) {a} b h c lt e e' =
    ones_and_step a b
    ∙ ap₂ ◌+◌
    (sym (ap₂ ◌*◌ (e 0 (omega arith) ∙ Middle.digit_lowest 2 (le_refl 2) a) (e' 0 (omega arith) ∙ Middle.digit_lowest 2 (le_refl 2) b)))
    (ones_and k (b / 2) (λ j. h (suc j)) (λ j. c (suc j)) (omega (arith, Nat.pow-suc 2 k))
    (λ j l. e (suc j) (omega arith) ∙ Middle.digit_rest 2 (le_refl 2) a j)
    (λ j l. e' (suc j) (omega arith) ∙ Middle.digit_rest 2 (le_refl 2) b j))

number_equal : (k : ℕ) (h h' : ℕ → ℕ) → ((i : ℕ) → i < k → h i ≡ h' i) → from_digits 2 k h ≡ from_digits 2 k h'
number_equal zero h h' e = refl
number_equal (suc k) h h' e = ap₂ (λ (u v : ℕ). u * 2 + v) (number_equal k h h' (λ i l. e i (omega arith))) (e k (omega arith))

-- The site's symbol, from a word whose bit i is cell i.
module _ (n row : ℕ) {f col : ℕ} (word : ℕ) (n_lt : n < 32) (f_lt : f < 2 ^ suc n) (col_lt : col < 2 ^ n)
    (cells : (i : ℕ) → i < n + n → digit 2 word i ≡ digit 2 (row * 2 ^ n + col) (n + n - suc i)) where
  cell : (i j : ℕ) → i < n → j < suc n → get_or (line 2 n row col) (i + j) 0 ≡ digit 2 (word / 2 ^ i % 2 ^ 32) j
  cell i j l h =
      rw (
        Middle.digits_append 2 (le_refl 2) n row col_lt n,
        Places.digit_mod (word / 2 ^ i) {w = 32} j (omega arith),
        Middle.div_pow 2 word i j,
        cells (i + j) (omega arith),
      )
      (Middle.cell_at 2 (le_refl 2) (n + n) (i + j) (n + n - suc (i + j)) (row * 2 ^ n + col) (omega arith))

  output_ones : (i : ℕ) → i < n → output_cell 2 n f (line 2 n row col) i ≡ parity f word i
  unfolding output_cell
  output_ones i l =
      ap (λ (v : ℕ). v % 2)
      (sym (ones_and (suc n) (word / 2 ^ i % 2 ^ 32) (digit 2 f) (λ j. get_or (line 2 n row col) (i + j) 0) f_lt (λ j _. refl)
      (λ j h. cell i j l h)))

  pub symbol_parities : symbol 2 n f row col ≡ from_digits 2 n (parity f word)
  unfolding symbol
  symbol_parities = number_equal n (output_cell 2 n f (line 2 n row col)) (parity f word) output_ones

-- A line has the 2n bits of a site's number in reverse.
abbrev LineOf : ℕ → ℕ → ℕ → Type 0
LineOf n site line = (i : ℕ) → i < n + n → digit 2 line i ≡ digit 2 site (n + n - suc i)

pub site_parities : (n site line : ℕ) {f : ℕ} → n < 32 → f < 2 ^ suc n → LineOf n site line
    → at_site n f site ≡ from_digits 2 n (parity f line)
site_parities n site line n_lt f_lt is =
    symbol_parities n (site / 2 ^ n) line n_lt f_lt (mod-lt site (pow_pos n)) (λ i l. rw (div-add-mod' site (2 ^ n)) (is i l))

-- The reverse of 64 bits without the places behind the 2n.
pub reverse_line : (n site : ℕ) {reverse : ℕ} → n < 32 → Moved (λ i. 63 - i) site reverse → LineOf n site (reverse / 2 ^ (64 - 2 * n))
reverse_line n site {reverse} n_lt moved i l =
    let same : 63 - ((64 - 2 * n) + i) ≡ n + n - suc i = omega arith in
    rw (Middle.div_pow 2 reverse (64 - 2 * n) i, ← same) (moved.bit ((64 - 2 * n) + i) (omega arith))

-- The line of a power of two has a single one.
at_power : (k : ℕ) → digit 2 (2 ^ k) k ≡ 1
at_power k = ap (λ (v : ℕ). v % 2) (Nat.div_self (pow_pos k))

off_power : (k i : ℕ) → (i ≡ k → ⊥) → digit 2 (2 ^ k) i ≡ 0
off_power k i other = elim (dec_lt i k) [
  | yes l ↦ rw Nat.one-mul at (Places.digit_shl_low 1 k i l)
  | no l ↦ let j : ℕ = i - k - 1 in
      let above : i - k ≡ suc j = omega arith in
      rw Nat.one-mul at (Places.digit_shl_high 1 k i (omega arith)) ∙ ap (digit 2 1) above
      ∙ ap (λ (v : ℕ). v % 2) (Nat.div-eq_of_lt (omega (arith, Nat.pow-suc 2 j, pow_pos j)))
]

pub unit_line : (n m : ℕ) → m < n + n → LineOf n (2 ^ m) (2 ^ (n + n - suc m))
unit_line n m h i l = elim (ℕ_discrete i (n + n - suc m)) [
  | yes e ↦ let place : n + n - suc i ≡ m = omega arith in
      ap (digit 2 (2 ^ (n + n - suc m))) e ∙ at_power (n + n - suc m) ∙ sym (ap (digit 2 (2 ^ m)) place ∙ at_power m)
  | no e ↦ off_power (n + n - suc m) i e ∙ sym (off_power m (n + n - suc i) (λ e'. e (omega arith)))
]

-- A symbol is linear in the site's number.
pub site_add : (n : ℕ) {f : ℕ} (a b : ℕ) → f < 2 ^ suc n → at_site n f (add 2 a b) ≡ bit_xor (at_site n f a) (at_site n f b)
site_add n {f} a b f_lt =
    rw (Codes.add_div 2 (le_refl 2) n a b, Codes.add_mod 2 (le_refl 2) n a b)
    (Linear.symbol_add 2 (le_refl 2) n f_lt (a / 2 ^ n) (b / 2 ^ n) (mod-lt a (pow_pos n)) (mod-lt b (pow_pos n))
    ∙ add_xor (at_site n f a) (at_site n f b))

pub site_zero : (n : ℕ) {f : ℕ} → f < 2 ^ suc n → at_site n f 0 ≡ 0
unfolding add
site_zero n {f} f_lt = site_add n 0 0 f_lt ∙ xor_self (at_site n f 0)

-- The sites from 2^m on repeat those before.
pub site_next : (n m : ℕ) {f i : ℕ} → f < 2 ^ suc n → i < 2 ^ m
    → at_site n f (2 ^ m + i) ≡ bit_xor (at_site n f i) (at_site n f (2 ^ m))
site_next n m {f} {i} f_lt l =
    let whole : add 2 i (2 ^ m) ≡ 2 ^ m + i =
    Ring.add_comm 2 (le_refl 2) i (2 ^ m) ∙ rw Nat.one-mul at (Blocks.add_parts 2 (le_refl 2) m 1 l) in
    ap (at_site n f) (sym whole) ∙ site_add n i (2 ^ m) f_lt
