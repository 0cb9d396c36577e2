-- `reaching` meets its contract: the number of words, three times, is what the code divides by 3.
use mathlib.Core.Path.{◌≡◌}
use Prim.Native.Nat.{ℕ, ◌*◌, ◌%◌, ◌^◌, ◌≤◌}
use native.Mathlib.Omega.{arith}
use Rattle.poly.proofs.Shifts.{one_shl}
use Rattle.pairs.proofs.Words.{words_closed}
use Rattle.longest.proofs.reaching.Goals as goal

shifted : (n : ℕ) → n ≤ 31 → 1 * 2 ^ n % 2 ^ 64 ≡ 2 ^ n
shifted n few = one_shl 64 n (omega arith)

pub overflow_sub-result : goal.overflow_sub-result
overflow_sub-result c = rw (shifted c.args.n c.requires, c.from.ensures) (omega (arith, words_closed c.args.n))

pub returns : goal.returns
returns c = rw (shifted c.args.n c.requires, c.from.ensures) (omega (arith, words_closed c.args.n))
