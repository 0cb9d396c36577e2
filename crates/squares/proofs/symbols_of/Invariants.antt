-- `symbols_of` meets its contract. The invariant: the first i output cells of each symbol are read.
use mathlib.Core.Path.{◌≡◌}
use Prim.Native.Nat.{ℕ, ◌/◌, ◌^◌}
use Rattle.squares.specs.Symbols.{from_digits}
use Rattle.squares.specs.Lines.{parity}
use Rattle.squares.proofs.symbols_of.Given as goal

-- the output cells of one code that are read
pub record Read (code line i cells : ℕ) : Type 0 where
  pub are : cells ≡ from_digits 2 i (parity code line)

abbrev pub invariant-loop : goal.invariant-loop
invariant-loop l =
    (l.rest ≡ l.line / 2 ^ l.counter) × Read l.f l.line l.counter l.first × Read l.g l.line l.counter l.second
