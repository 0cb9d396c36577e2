-- Squares of any order N: Latin squares, and pairs of them that are orthogonal. Rows, columns and symbols run from 0 to N - 1.
use Rattle.std.specs.Prelude.{◌≡◌, ℕ, ◌<◌}

-- The symbol at each row and column.
abbrev pub Square : Type 0
Square = ℕ → ℕ → ℕ

-- Exactly one thing is as P says: there is one, and any two are equal.
pub record ExactlyOne {A : Type 0} (P : A → Type 0) : Type 0 where
  pub one : A
  pub is : P one
  pub only : (a b : A) → P a → P b → a ≡ b

-- Each row and each column shows each symbol once.
pub record Latin (N : ℕ) (square : Square) : Type 0 where
  pub rows : (row symbol : ℕ) → row < N → symbol < N → ExactlyOne (λ (col : ℕ). (col < N) × (square row col ≡ symbol))
  pub columns : (col symbol : ℕ) → col < N → symbol < N → ExactlyOne (λ (row : ℕ). (row < N) × (square row col ≡ symbol))

-- A site is one row and one column, each below N.
pub record Site : Type 0 where
  pub row : ℕ
  pub col : ℕ

abbrev pub On : ℕ → Site → Type 0
On N site = (site.row < N) × (site.col < N)

-- Laid together, the two squares show each pair of symbols, equal ones too, at exactly one site.
abbrev pub Orthogonal : ℕ → Square → Square → Type 0
Orthogonal N first second =
    (a b : ℕ) → a < N → b < N
    → ExactlyOne (λ (site : Site). On N site × (first site.row site.col ≡ a) × (second site.row site.col ≡ b))
