-- `divide` meets its contract. The invariant: quotient times b plus remainder is a. A turn adds the same multiple of b to both sides and
-- clears the remainder's leading term; at the end the remainder is small, and division is unique.
use mathlib.Core.Path.{◌≡◌}
use Prim.Native.Nat.{ℕ, ◌/◌, ◌^◌, ◌<◌}
use lib.Count.{count_leading_zeros}
use Rattle.poly.specs.Code.{add, mul}
use Rattle.poly.proofs.arithmetic.divide.Given as goal

abbrev pub zeros : ℕ → ℕ
zeros a = count_leading_zeros 32 a

-- the code's limit: at most that are the codes of lower degree than b
abbrev pub limit : ℕ → ℕ
limit b = 2147483647 / 2 ^ zeros b

abbrev pub invariant-loop-remainder : goal.invariant-loop-remainder
invariant-loop-remainder l = (l.remainder < 2 ^ 32) × (add 2 (mul 2 l.quotient l.b) l.remainder ≡ l.a)

abbrev pub decreases-loop-remainder : goal.decreases-loop-remainder
decreases-loop-remainder l = l.remainder
