-- A list of levels is read back from its encoding, and what is read encodes to the bytes that were read: level by level, with the
-- levels before it, nearest first, put back in front by `reverse_aux`.
use mathlib.Core.Path.{◌≡◌, refl, ap}
use Prim.Native.Nat.{ℕ, zero, suc}
use mathlib.Core.Bool.{false}
use mathlib.Core.List.{List, [], ◌∷◌, ◌++◌, reverse_aux, append_assoc}
use native.Mathlib.Omega.{arith}
use lib.ListN.{length}
use borrow.Author.Tests.{le-ltb, ltb-false}
use Rattle.levels.specs.Levels.{any_barred, repeated}
use Rattle.reply.proofs.Order.{NoneApplies}
use Rattle.poly.proofs.Ranges.{neither}
use Rattle.leb128.specs.Parser.{parsed}
use Rattle.leb128.specs.Number.{AllBelow, encode_number, encode_numbers}
use Rattle.leb128.proofs.Field.{field_back, with_field}
use Rattle.trial.specs.Rules.{Rules, today}
use Rattle.trial.specs.Levels.{level_causes, parse_levels}

pub levels_back : (levels before rest : List ℕ) → AllBelow 65536 levels → any_barred repeated before levels ≡ false
    → parse_levels today (length levels) before (encode_numbers levels ++ rest) ≡ parsed (reverse_aux before levels) rest
levels_back [] before rest below allowed = refl
levels_back (level ∷ levels) before rest below allowed =
    let o = neither (repeated before level) _ allowed in
    let b = below 0 in
    let clear : NoneApplies (level_causes today before level) = (le-ltb 65535 level (omega arith), (o.0, tt)) in
    rw (append_assoc, field_back (level_causes today before) level (encode_numbers levels ++ rest) (omega arith) clear)
    (levels_back levels (level ∷ before) rest (λ i. below (suc i)) o.1)

-- These levels were read behind those before.
pub record LevelsRead (rules : Rules) (count : ℕ) (before bytes levels rest : List ℕ) : Type 0 where
  pub fresh : List ℕ
  pub whole : reverse_aux before fresh ≡ levels
  pub size : length fresh ≡ count
  pub allowed : any_barred rules.barred before fresh ≡ false
  pub low : AllBelow 65536 fresh
  pub same : encode_numbers fresh ++ rest ≡ bytes

pub levels_same : (rules : Rules) (count : ℕ) (before bytes : List ℕ) {levels rest : List ℕ} → AllBelow 256 bytes
    → parse_levels rules count before bytes ≡ parsed levels rest → LevelsRead rules count before bytes levels rest
levels_same rules zero before bytes {levels} {rest} below e =
    record { fresh = []; whole = cc; size = refl; allowed = refl; low = λ i. omega arith; same = cc }
levels_same rules (suc count) before bytes {levels} {rest} below e =
    with_field rules.numbers (level_causes rules before) _ bytes below e λ level bytes' clear same below' e'.
    behind level bytes' clear same (levels_same rules count (level ∷ before) bytes' below' e')
  where
    behind : (level : ℕ) (bytes' : List ℕ) → NoneApplies (level_causes rules before level) → encode_number level ++ bytes' ≡ bytes
        → LevelsRead rules count (level ∷ before) bytes' levels rest → LevelsRead rules (suc count) before bytes levels rest
    behind level bytes' clear same t =
        record {
          fresh = level ∷ t.fresh;
          whole = t.whole;
          size = ap suc t.size;
          allowed = rw clear.1.0 t.allowed;
          low = elim [ zero ↦ omega (arith, ltb-false 65535 level clear.0) | suc i ↦ t.low i ];
          same = rw (append_assoc, t.same) same;
        }
