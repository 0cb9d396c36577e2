-- A line of cells as a machine word, cell i as bit i, and the exchanges that reverse 64 bits. No public contract speaks of it.
use Rattle.std.specs.Prelude.{cond, ◌≡◌, ℕ, ◌+◌, ◌-◌, ◌/◌, ◌%◌, ◌^◌, ◌<◌, eqb}
use Rattle.std.specs.Int.Bits.{bit_and}
use Rattle.std.specs.Int.Count.{ones}
use Rattle.poly.specs.Code.{digit}

-- Output cell i: the parity of the ones of a code that meet ones among the 32 cells from cell i on.
abbrev pub parity : ℕ → ℕ → ℕ → ℕ
parity code line i = ones (bit_and code (line / 2 ^ i % 2 ^ 32)) % 2

-- Bit i of r is bit `from i` of x.
pub record Moved (from : ℕ → ℕ) (x r : ℕ) : Type 0 where
  pub bit : (i : ℕ) → i < 64 → digit 2 r i ≡ digit 2 x (from i)

-- Bits in groups of `width`, which are exchanged two by two: where bit i comes from. The group of bit i is i / width, and the even groups
-- are the lower ones.
abbrev pub exchanged : ℕ → ℕ → ℕ
exchanged width i = cond (eqb (i / width % 2) 0) (i + width) (i - width)

-- The ones of low are the bits of the lower groups.
pub record Lower (width low : ℕ) : Type 0 where
  pub some : 0 < width
  pub few : width < 64
  pub bit : (i : ℕ) → i < 64 → digit 2 low i ≡ (i / width + 1) % 2
