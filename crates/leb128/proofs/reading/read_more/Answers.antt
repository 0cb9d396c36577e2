-- `read_more` meets its contract: a byte more is a group more, and the tenth byte must be 1.
use mathlib.Core.Path.{◌≡◌, refl, sym, ◌∙◌}
use Prim.Native.Nat.{ℕ, ◌+◌, ◌-◌, ◌*◌, ◌%◌, ◌≤◌, ◌<◌}
use native.Mathlib.Nat.{mul-le-mul_left}
use native.Mathlib.Decide.{dec_lt, ℕ_discrete}
use lib.Dec.{lit<}
use native.Mathlib.Omega.{arith}
use mathlib.Core.List.{List}
use lib.ListN.{length, get_or, drop}
use Rattle.leb128.specs.Parser.{failed}
use Rattle.leb128.specs.Inner.{parse_more}
use Rattle.leb128.proofs.Groups.{SoFar, unit_fits, group_fits, ends, needless, too_high, total, turn, unit_last, long}
use Rattle.leb128.proofs.reading.read_more.Goals as goal

-- In a turn: the next unit is not too large, and a group more stays below it.
turn_fits : {file : List ℕ} {at low value unit next left : ℕ} → SoFar file at low value unit next left → 0 < left
    → (group : ℕ) → group < 128 → (unit ≤ 72057594037927936) × (value + unit * group < unit * 128)
turn_fits s more group h = (unit_fits s more, group_fits s group h)

pub returns-then-byte-eq0 : goal.returns-then-byte-eq0
returns-then-byte-eq0 c =
    let none = sym c.from-byte.ensures ∙ c.if-byte-eq0.true in
    record { says = sym (needless c.loop-next.invariant (omega arith) none); inside = tt }

pub overflow_mul-result : goal.overflow_mul-result
overflow_mul-result c = omega (arith, turn_fits c.loop-next.invariant (omega arith) c.from-byte.result (omega arith))

pub overflow_add-result : goal.overflow_add-result
overflow_add-result c = omega (arith, turn_fits c.loop-next.invariant (omega arith) c.from-byte.result (omega arith))

pub returns-then-byte-lt128 : goal.returns-then-byte-lt128
returns-then-byte-lt128 c =
    let s = c.loop-next.invariant in
    let w = c.from-byte in
    let fits = turn_fits s (omega arith) w.result (omega arith) in
    record {
      says = sym (total s w.result (omega arith) (sym w.ensures) c.if-byte-eq0.false c.if-byte-lt128.true (omega arith));
      inside = omega arith;
    }

pub overflow_mul-value : goal.overflow_mul-value
overflow_mul-value c = omega (arith, turn_fits c.loop-next.invariant (omega arith) (c.from-byte.result % 128) (omega arith))

pub overflow_add-value : goal.overflow_add-value
overflow_add-value c = omega (arith, turn_fits c.loop-next.invariant (omega arith) (c.from-byte.result % 128) (omega arith))

pub overflow_mul-unit : goal.overflow_mul-unit
overflow_mul-unit c = omega (arith, turn_fits c.loop-next.invariant (omega arith) 0 (lit< tt))

pub loop-next-preserved : goal.loop-next-preserved
loop-next-preserved c =
    let w = c.from-byte in
    let at = c.args.at in
    let next = c.loop-next.next in
    let less : at + 8 - next - 1 ≡ at + 8 - (next + 1) = omega arith in
    rw less at (turn c.loop-next.invariant (omega arith) w.result (omega arith) (sym w.ensures) c.if-byte-lt128.false)

-- The loop has come to its end.
at_end : {file : List ℕ} {at low value unit next : ℕ} (end : ℕ) → next ≤ end → end ≤ next
    → SoFar file at low value unit next (at + 8 - next) → SoFar file at low value unit end (at + 8 - end)
at_end {next = next} end h k s = let same : next ≡ end = omega arith in rw same at s

pub returns-then-file-end : goal.returns-then-file-end
returns-then-file-end c =
    let nine = at_end c.ninth_end-end.result (omega arith) c.loop-next-test.false c.loop-next.invariant in
    record { says = sym (ends nine c.if-file-end.true); inside = tt }

-- The tenth byte, and what it is.
module _ {file : List ℕ} {at low value unit next left : ℕ} (nine : SoFar file at low value unit next left) (none : left ≤ 0)
    (tenth : next < length file) (byte : ℕ) (is : get_or file next 0 ≡ byte) where
  refused-last : (byte ≡ 1 → ⊥) → parse_more low (drop at file) ≡ failed 10
  refused-last other =
      elim (dec_lt byte 128) [
        | no large ↦ long nine none byte tenth is (omega arith)
        | yes small ↦ elim (ℕ_discrete byte 0) [
          | yes needless-byte ↦ needless nine tenth (is ∙ needless-byte)
          | no some ↦
              let twice : unit * 2 ≤ unit * byte = mul-le-mul_left unit (omega arith) in
              too_high nine byte tenth is some small (omega (arith, unit_last nine none))
        ]
      ]

pub returns-then-file-end-ne1 : goal.returns-then-file-end-ne1
returns-then-file-end-ne1 c =
    let nine = at_end c.ninth_end-end.result (omega arith) c.loop-next-test.false c.loop-next.invariant in
    record { says = sym (refused-last nine (omega arith) c.if-file-end.false _ refl c.if-file-end-ne1.true); inside = tt }

pub returns : goal.returns
returns c =
    let nine = at_end c.ninth_end-end.result (omega arith) c.loop-next-test.false c.loop-next.invariant in
    let unit = c.loop-next.unit in
    let unit-is : unit ≡ 9223372036854775808 = unit_last nine (omega arith) in
    let once : unit * 1 ≡ unit = omega arith in
    let says = total nine 1 c.if-file-end.false c.if-file-end-ne1.false (λ e. omega arith) (lit< tt) (omega (arith, unit-is, nine.small)) in
    record { says = sym (rw once at says); inside = omega arith }
