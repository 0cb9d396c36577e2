-- `symbols_of` meets its contract: the cells that are read are a number with as many digits, so that another one fits.
use mathlib.Core.Path.{◌≡◌, refl, sym, ap, ◌∙◌}
use Prim.Native.Nat.{ℕ, ◌+◌, ◌*◌, ◌/◌, ◌%◌, ◌^◌, ◌<◌}
use native.Mathlib.Nat.{le_refl, mod-lt, lt_of_lt_of_le, div-one}
use native.Mathlib.Numerals.{add-one}
use native.Mathlib.Omega.{arith}
use lib.Bits.{bit_and}
use lib.Count.{ones}
use lib.Pow.{pow_mono, shr-shr}
use Rattle.squares.specs.Lines.{parity}
use Rattle.squares.proofs.Middle.{number_lt}
use Rattle.squares.proofs.symbols_of.Invariants.{Read}
use Rattle.squares.proofs.symbols_of.Goals as goal

more : {code line i cells rest : ℕ} → rest ≡ line / 2 ^ i → Read code line i cells
    → Read code line (i + 1) (cells * 2 + ones (bit_and code (rest % 2 ^ 32)) % 2)
more {code} {line} {i} shifted r =
    rw (shifted, add-one i) (record { are = ap (λ (v : ℕ). v * 2 + parity code line i) r.are })

few : {code line i cells : ℕ} → i < 31 → Read code line i cells → cells < 2 ^ 30
few {code} {line} {i} h r =
    rw r.are
    (lt_of_lt_of_le (number_lt 2 (le_refl 2) i (parity code line) (λ j. mod-lt _ (omega arith)))
    (pow_mono {i = i} {j = 30} (omega arith)))

pub loop-init : goal.loop-init
loop-init c = (sym (div-one c.args.line), record { are = refl }, record { are = refl })

pub overflow_mul-first : goal.overflow_mul-first
overflow_mul-first c = record { fits = omega (arith, few (omega (arith, c.requires)) c.loop.invariant.1) }

pub overflow_add-first : goal.overflow_add-first
overflow_add-first c = record { fits = omega (arith, few (omega (arith, c.requires)) c.loop.invariant.1) }

pub overflow_mul-second : goal.overflow_mul-second
overflow_mul-second c = record { fits = omega (arith, few (omega (arith, c.requires)) c.loop.invariant.2) }

pub overflow_add-second : goal.overflow_add-second
overflow_add-second c = record { fits = omega (arith, few (omega (arith, c.requires)) c.loop.invariant.2) }

pub loop-preserved : goal.loop-preserved
loop-preserved c =
    let (shifted, one, two) = c.loop.invariant in
    (ap (λ (v : ℕ). v / 2) shifted ∙ shr-shr _ c.loop.counter 1, more shifted one, more shifted two)

pub returns : goal.returns
returns c =
    let all : c.loop.counter ≡ c.args.n = omega arith in
    let (shifted, one, two) = rw all at c.loop.invariant in (one.are, two.are)
