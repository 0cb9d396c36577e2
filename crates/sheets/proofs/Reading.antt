-- What a sheet in range gives: the bytes of a site are there and are symbols below 64, so that they fit into sets of 64 bits. Then what one
-- turn of `put_rows` adds to its sets and tables.
use mathlib.Core.Bool.{true, ◌&&◌}
use mathlib.Core.List.{List}
use mathlib.Core.Path.{◌≡◌, refl, sym, ap, ap₂, ◌∙◌}
use Prim.Native.Nat.{ℕ, suc, ◌+◌, ◌-◌, ◌*◌, ◌/◌, ◌%◌, ◌^◌, ◌≤◌, ◌<◌}
use native.Mathlib.Nat.{add-zero, mul-le-mul}
use native.Mathlib.Numerals.{add-one}
use native.Mathlib.Omega.{arith}
use lib.Arith.{digits_lt}
use lib.Bits.{bit_or}
use lib.Dec.{eqb}
use lib.ListN.{length, get_or}
use Rattle.squares.specs.Sheets.{shown}
use Rattle.sheets.specs.Inner.{InRange, Singles, row_permutes, by_turns, met_below, added, pairs_put}
use Rattle.sheets.proofs.Sets.{line_full}

-- The two bytes of a site.
pub record Readable (N : ℕ) (bytes : List ℕ) (row col : ℕ) : Type 0 where
  pub low : 2 * (row * N + col) + 1 < 8192
  pub inside : 2 * (row * N + col) + 1 < length bytes
  pub first : get_or bytes (2 * (row * N + col)) 0 < N
  pub second : get_or bytes (2 * (row * N + col) + 1) 0 < N
  pub few : N ≤ 64

pub few_sites : {N : ℕ} → N ≤ 64 → N * N ≤ 4096
few_sites few = mul-le-mul few few

module _ {N : ℕ} {bytes : List ℕ} (in_range : InRange N bytes) where
  pub readable : {row col : ℕ} → row < N → col < N → Readable N bytes row col
  readable {row} {col} hr hc =
      let site : row * N + col < N * N = digits_lt hr hc in
      record {
        low = omega (arith, few_sites in_range.few);
        inside = omega (arith, in_range.long);
        first = in_range.symbols (2 * (row * N + col)) (omega arith);
        second = in_range.symbols (2 * (row * N + col) + 1) (omega arith);
        few = in_range.few;
      }

  pub symbol_lt : (k : ℕ) → k < 2 → {row col : ℕ} → row < N → col < N → shown 2 N k bytes row col < N
  unfolding shown
  symbol_lt k hk {row} {col} hr hc =
      let site : row * N + col < N * N = digits_lt hr hc in
      in_range.symbols (2 * (row * N + col) + k) (omega arith)

-- the bytes are the symbols that the squares show
module _ (N : ℕ) (bytes : List ℕ) (row col : ℕ) where
  pub first_shown : get_or bytes (2 * (row * N + col)) 0 ≡ shown 2 N 0 bytes row col
  unfolding shown
  first_shown = ap (λ (i : ℕ). get_or bytes i 0) (sym (add-zero (2 * (row * N + col))))

  pub second_shown : get_or bytes (2 * (row * N + col) + 1) 0 ≡ shown 2 N 1 bytes row col
  unfolding shown
  second_shown = refl

-- the sets of single symbols
pub single : {N symbol shown : ℕ} {sets : List ℕ} → Singles N sets → symbol < N → symbol ≡ shown → get_or sets symbol 0 ≡ 2 ^ shown
single {symbol = symbol} singles h e = singles.at symbol h ∙ ap (λ (s : ℕ). 2 ^ s) e

-- the two rows by turns
module _ (N : ℕ) (bytes : List ℕ) (k row next col : ℕ) where
  pub turn_one : by_turns N bytes k row next (2 * col) ≡ shown 2 N k bytes row col
  turn_one =
      let even : 2 * col % 2 ≡ 0 = omega arith in
      let half : 2 * col / 2 ≡ col = omega arith in
      rw (even, half)

  pub turn_other : by_turns N bytes k row next (2 * col + 1) ≡ shown 2 N k bytes next col
  turn_other =
      let odd : (2 * col + 1) % 2 ≡ 1 = omega arith in
      let half : (2 * col + 1) / 2 ≡ col = omega arith in
      rw (odd, half)

-- one symbol more in a set
pub met_next : (h : ℕ → ℕ) (k : ℕ) {set one : ℕ} → set ≡ met_below k (λ i. true) h → one ≡ 2 ^ h k
    → bit_or set one ≡ met_below (k + 1) (λ i. true) h
met_next h k met e = rw (add-one k) (ap₂ bit_or met e)

-- the sets of a whole row
pub row_full : {N : ℕ} {bytes : List ℕ} → InRange N bytes → (row : ℕ) → row < N → {k fs gs : ℕ} → k ≡ N
    → fs ≡ met_below k (λ i. true) (shown 2 N 0 bytes row) → gs ≡ met_below k (λ i. true) (shown 2 N 1 bytes row)
    → (eqb fs (2 ^ N - 1) && eqb gs (2 ^ N - 1)) ≡ row_permutes N bytes row
row_full {N} {bytes} in_range row h all f g =
    ap₂ ◌&&◌ (line_full N (shown 2 N 0 bytes row) f all (λ col hc. symbol_lt in_range 0 (omega arith) h hc))
    (line_full N (shown 2 N 1 bytes row) g all (λ col hc. symbol_lt in_range 1 (omega arith) h hc))

-- two pairs more in a table
pub put_two : (first second : ℕ → ℕ) (empty : List ℕ) (col : ℕ) {table : List ℕ} {a x b y : ℕ}
    → table ≡ pairs_put empty (2 * col) first second → a ≡ first (2 * col) → x ≡ 2 ^ second (2 * col)
    → b ≡ first (2 * col + 1) → y ≡ 2 ^ second (2 * col + 1)
    → added (added table a x) b y ≡ pairs_put empty (2 * (col + 1)) first second
put_two first second empty col is ea ex eb ey =
    let two : 2 * (col + 1) ≡ suc (suc (2 * col)) = omega arith in
    let next : 2 * col + 1 ≡ suc (2 * col) = add-one (2 * col) in
    rw (two, is, ea, ex, eb, ey, next)
