-- Polynomials over the field of p elements as codes (document 01, "Polynomials", for p = 2): a code is a natural number, and its digit j in
-- base p is the coefficient of x^j. So times x^k is times p^k, and a polynomial of degree below n is a code below p^n.
use Rattle.std.specs.Prelude.{ℕ, zero, suc, pred, ◌+◌, ◌*◌, ◌/◌, ◌%◌, ◌^◌, ◌≤◌, ◌<◌}

-- The coefficient of x^j.
abbrev pub digit : ℕ → ℕ → ℕ → ℕ
digit p a j = a / p ^ j % p

-- A fold over the base-p digits of a, for 2 ≤ p, the lowest digit taken in last. The number before a is fuel; a itself is enough.
abbrev pub fold_in {ℓ} : {A : Type ℓ} → ℕ → A → (ℕ → A → A) → ℕ → ℕ → A
fold_in p z f zero a = z
fold_in p z f (suc k) zero = z
fold_in p z f (suc k) (suc a) = f (suc a % p) (fold_in p z f k (suc a / p))

abbrev pub fold {ℓ} : {A : Type ℓ} → ℕ → A → (ℕ → A → A) → ℕ → A
fold p z f a = fold_in p z f a a

-- The sum: digit by digit, modulo p.
unfoldable pub add : ℕ → ℕ → ℕ → ℕ
add p = fold p (λ b. b) (λ d rest b. rest (b / p) * p + (d + b % p) % p)

-- A constant c times a polynomial: digit by digit, modulo p.
unfoldable pub scale : ℕ → ℕ → ℕ → ℕ
scale p c = fold p zero (λ d rest. rest * p + c * d % p)

-- The product: (x a + d) b = x (a b) + d b.
unfoldable pub mul : ℕ → ℕ → ℕ → ℕ
mul p a b = fold p zero (λ d rest. add p (rest * p) (scale p d b)) a

-- The degree: one less than the number of digits. Code 0, which has no degree, gives 0.
unfoldable pub degree : ℕ → ℕ → ℕ
degree p a = pred (fold p zero (λ d rest. suc rest) a)

-- a has degree n.
pub record HasDegree (p n a : ℕ) : Type 0 where
  pub low : p ^ n ≤ a
  pub high : a < p ^ suc n
