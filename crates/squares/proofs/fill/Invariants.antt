-- `fill` meets its contract, for any list of two or three codes. The invariant: the bytes of the first 2^m sites are stored. By linearity,
-- those of the next 2^m are the same exclusive or the symbols at site 2^m.
use mathlib.Core.Path.{◌≡◌}
use mathlib.Core.List.{List}
use Prim.Native.Nat.{ℕ, ◌+◌, ◌*◌, ◌^◌, ◌≤◌, ◌<◌}
use lib.ListN.{length, get_or}
use Rattle.squares.specs.Doubling.{at_site}
use Rattle.squares.proofs.fill.Given as goal

-- what is stored: the bytes of the first 2^m sites, and behind them what was there
pub record Filled (n : ℕ) (codes : List ℕ) (m : ℕ) (lent out : List ℕ) : Type 0 where
  pub long : length out ≡ length lent
  pub low : (site : ℕ) {k : ℕ} → site < 2 ^ m → k < length codes
      → get_or out (length codes * site + k) 0 ≡ at_site n (get_or codes k 0) site
  pub high : (j : ℕ) → length codes * 2 ^ m ≤ j → get_or out j 0 ≡ get_or lent j 0

abbrev pub invariant-loop-m : goal.invariant-loop-m
invariant-loop-m l = Filled l.n l.codes l.m l.fn.out l.out
