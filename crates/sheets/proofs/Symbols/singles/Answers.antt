-- `singles` meets its contract: each turn stores one set more, and the others stand.
use mathlib.Core.Path.{◌≡◌, refl, ◌∙◌}
use Prim.Native.Nat.{◌*◌, ◌%◌, ◌^◌, ◌<◌}
use native.Mathlib.Numerals.{add-one}
use native.Mathlib.Omega.{arith}
use lib.ListN.{length, length-set}
use lib.Seq.{get_or-set_same, get_or-set_other}
use Rattle.poly.proofs.Shifts.{one_shl}
use Rattle.sheets.proofs.Below.{last_or}
use Rattle.sheets.proofs.Symbols.singles.Goals as goal

pub loop-symbol-init : goal.loop-symbol-init
loop-symbol-init c = (refl, record { at = λ s h. absurd (omega arith) })

pub loop-symbol-preserved : goal.loop-symbol-preserved
loop-symbol-preserved c =
    let loop = c.loop-symbol in
    let few : loop.symbol < 64 = omega (arith, c.args.self.few, c.loop-symbol-test.true) in
    let inside : loop.symbol < length loop.one = omega (arith, loop.invariant.0) in
    let single = 1 * 2 ^ loop.symbol % 2 ^ 64 in (
      length-set loop.one loop.symbol single ∙ loop.invariant.0,
      record {
        at =
            λ s h.
            last_or (rw (add-one loop.symbol) at h)
            (λ (same : s ≡ loop.symbol).
            rw same (get_or-set_same loop.one loop.symbol single 0 inside ∙ one_shl 64 loop.symbol few))
            (λ (l : s < loop.symbol).
            get_or-set_other loop.one loop.symbol s single 0 (λ e. omega arith) ∙ loop.invariant.1.at s l);
      },
    )

pub returns : goal.returns
returns c =
    let all : c.loop-symbol.symbol ≡ c.args.self.order = omega arith in
    rw all at c.loop-symbol.invariant.1
