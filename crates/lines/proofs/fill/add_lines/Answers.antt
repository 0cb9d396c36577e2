-- `add_lines` meets its contract: a line more is put, or it is the first that does not fit, or there is none.
use mathlib.Core.List.{List, []}
use mathlib.Core.Path.{◌≡◌, refl}
use Prim.Native.Nat.{ℕ, ◌+◌, ◌*◌, ◌<◌}
use native.Mathlib.Omega.{arith}
use lib.ListN.{length, take, drop, get_or}
use Rattle.lines.specs.Inner.{Adds, AddsLine, line_from, lines_from}
use Rattle.lines.proofs.Lines.{line_some}
use Rattle.lines.proofs.Block.{line_next, no_more}
use Rattle.lines.proofs.Fitting.{Begun, begun, begun_more, begun_last, adds_none, adds_line, adds_no_line}
use Rattle.lines.proofs.fill.add_lines.Goals as goal

module _ (from many : ℕ) (codes : List ℕ) {out₀ : List ℕ} {used i end : ℕ} {out : List ℕ}
    (b : Begun (lines_from from many codes) from out₀ used i out end) where
  module _ (h : i < many) {used' : ℕ} {out' : List ℕ} (p : AddsLine (line_from from codes i) out end used' out') where
    -- The next line is put.
    goes_on : (used' ≡ end → ⊥) → Begun (lines_from from many codes) from out₀ used (i + 1) out' used'
    goes_on more =
        let put : Adds (take 1 (drop i (lines_from from many codes))) (from + i) out end used' (from + i + 1) out' =
        rw (line_next from many codes i h) (adds_line p more) in
        begun_more 1 b put (i + 1) (omega arith)

    -- It does not fit.
    module _ (same : used' ≡ end) where
      nothing : Adds (take 1 (drop i (lines_from from many codes))) (from + i) out end used' (from + i) out'
      nothing =
          let some = line_some (from + i) (get_or codes (2 * i) 0) (get_or codes (2 * i + 1) 0) in
          rw (line_next from many codes i h) (adds_no_line p some same)

      kept : length out' ≡ length out₀
      kept = (begun_more 1 b nothing i refl).kept

      stops : Adds (lines_from from many codes) from out₀ used end (from + i) out'
      stops = rw same at (begun_last 1 b nothing (omega arith))

  -- There is none.
  ends : i ≡ many → Adds (lines_from from many codes) from out₀ used end (from + i) out
  ends e =
      let none : drop i (lines_from from many codes) ≡ [] = rw e (no_more from many codes) in
      b.rest end (from + i) out (adds_none (rw none))

pub loop-i-init : goal.loop-i-init
loop-i-init c = (begun c.requires.2, omega arith)

pub add_line-used-requires : goal.add_line-used-requires
add_line-used-requires c = c.loop-i.invariant.0.room

pub shape_of-out-then-used-filling : goal.shape_of-out-then-used-filling
shape_of-out-then-used-filling c =
    let (begun, next) = c.loop-i.invariant in
    kept c.args.before.next _ c.args.codes.now begun c.loop-i-test.true (rw next at c.add_line-used.ensures) c.if-used-filling.true

pub returns-then-used-filling : goal.returns-then-used-filling
returns-then-used-filling c =
    let (begun, next) = c.loop-i.invariant in
    let line = rw next at c.add_line-used.ensures in
    let put = stops c.args.before.next _ c.args.codes.now begun c.loop-i-test.true line c.if-used-filling.true in
    rw (← next) at put

pub loop-i-preserved : goal.loop-i-preserved
loop-i-preserved c =
    let (begun, next) = c.loop-i.invariant in (
      goes_on c.args.before.next _ c.args.codes.now begun c.loop-i-test.true (rw next at c.add_line-used.ensures) c.if-used-filling.false,
      omega arith,
    )

pub shape_of-out : goal.shape_of-out
shape_of-out c = c.loop-i.invariant.0.kept

pub returns : goal.returns
returns c =
    let (begun, next) = c.loop-i.invariant in
    rw next (ends c.args.before.next _ c.args.codes.now begun (omega arith))
