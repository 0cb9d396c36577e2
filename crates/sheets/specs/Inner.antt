-- How a sheet is checked: rows, two at a time, and sets of the symbols met, bit v for symbol v. No public contract speaks of it.
use Rattle.std.specs.Prelude.{ℕ, zero, suc, ◌-◌, ◌*◌, ◌/◌, ◌%◌, ◌^◌, ◌≤◌, ◌<◌, Bool, cond, ◌&&◌, List, ◌≡◌, eqb, length, get_or, set}
use Rattle.std.specs.Int.Bits.{bit_or}
use Rattle.squares.specs.Sheets.{shown}
use Rattle.sheets.specs.Counting.{all_below, is_permutation}

-- A sheet whose bytes are all there and all symbols, so that they can be members of sets.
pub record InRange (N : ℕ) (bytes : List ℕ) : Type 0 where
  pub some : 1 ≤ N
  pub few : N ≤ 64
  pub long : 2 * (N * N) ≤ length bytes
  pub symbols : (i : ℕ) → i < 2 * (N * N) → get_or bytes i 0 < N

-- In a row both squares have a permutation of the symbols.
abbrev pub row_permutes : ℕ → List ℕ → ℕ → Bool
row_permutes N bytes row = is_permutation N (shown 2 N 0 bytes row) && is_permutation N (shown 2 N 1 bytes row)

-- Symbol k of two rows, column by column, the one row's and the other's by turns.
abbrev pub by_turns : ℕ → List ℕ → ℕ → ℕ → ℕ → ℕ → ℕ
by_turns N bytes k row next j = shown 2 N k bytes (cond (eqb (j % 2) 0) row next) (j / 2)

-- The sets of one number each.
pub record Singles (N : ℕ) (sets : List ℕ) : Type 0 where
  pub at : (symbol : ℕ) → symbol < N → get_or sets symbol 0 ≡ 2 ^ symbol

-- The set of h i for the numbers i below k that pass a test.
abbrev pub met_below : ℕ → (ℕ → Bool) → (ℕ → ℕ) → ℕ
met_below zero test h = 0
met_below (suc k) test h = cond (test k) (bit_or (met_below k test h) (2 ^ h k)) (met_below k test h)

-- The first sets of a table, as many as the order, have all symbols below it.
abbrev pub all_full : ℕ → List ℕ → Bool
all_full N table = all_below N (λ a. eqb (get_or table a 0) (2 ^ N - 1))

-- The members of one set added to set number a of a table.
abbrev pub added : List ℕ → ℕ → ℕ → List ℕ
added table a members = set table a (bit_or (get_or table a 0) members)

-- k pairs (a, b) put into a table: b is added to set number a.
abbrev pub pairs_put : List ℕ → ℕ → (ℕ → ℕ) → (ℕ → ℕ) → List ℕ
pairs_put table zero first second = table
pairs_put table (suc k) first second = added (pairs_put table k first second) (first k) (2 ^ second k)
