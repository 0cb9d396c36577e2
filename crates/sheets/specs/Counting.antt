-- Whether two squares of order N, laid together, are two orthogonal Latin squares, decided by counting (document 02, request l).
use Rattle.std.specs.Prelude.{ℕ, zero, suc, ◌+◌, ◌*◌, ◌/◌, ◌%◌, Bool, true, cond, ◌&&◌, eqb}
use Rattle.squares.specs.Squares.{Square}

-- How many of the numbers below k pass a test.
abbrev pub count_below : ℕ → (ℕ → Bool) → ℕ
count_below zero test = 0
count_below (suc k) test = count_below k test + cond (test k) 1 0

-- Whether all of them pass.
abbrev pub all_below : ℕ → (ℕ → Bool) → Bool
all_below zero test = true
all_below (suc k) test = all_below k test && test k

-- h 0, h 1, .., h (N - 1) are a permutation of the symbols: each symbol below N comes up once (the paper: they run once through).
abbrev pub is_permutation : ℕ → (ℕ → ℕ) → Bool
is_permutation N h = all_below N (λ symbol. eqb (count_below N (λ i. eqb (h i) symbol)) 1)

-- Every row and every column is a permutation of the symbols.
abbrev pub is_latin : ℕ → Square → Bool
is_latin N square =
    all_below N (λ row. is_permutation N (λ col. square row col)) && all_below N (λ col. is_permutation N (λ row. square row col))

-- Each pair of symbols has one site. The sites are counted row by row: site number s is in row s / N and column s % N.
abbrev pub is_orthogonal : ℕ → Square → Square → Bool
is_orthogonal N first second =
    all_below N
    (λ a. all_below N
    (λ b. eqb (count_below (N * N) (λ s. eqb (first (s / N) (s % N)) a && eqb (second (s / N) (s % N)) b)) 1))

-- Both squares are Latin, and the two are orthogonal: a Graeco-Latin square.
abbrev pub is_graeco_latin : ℕ → Square → Square → Bool
is_graeco_latin N first second = is_latin N first && is_latin N second && is_orthogonal N first second
