-- `graeco_latin` meets its contract: a row that fails is one of the sheet's, and of rows that all pass the full sets say the rest.
use mathlib.Core.Path.{◌≡◌, sym, ◌∙◌}
use Prim.Native.Nat.{ℕ, ◌+◌, ◌*◌, ◌≤◌, ◌<◌}
use native.Mathlib.Omega.{arith}
use Rattle.std.specs.Int.{div_ceil}
use Rattle.sheets.proofs.Together.{no_rows, next_lt, row_fails, rows_next, in_turn, all_rows}
use Rattle.sheets.proofs.graeco_latin.Goals as goal

-- the two rows of a turn begin below the order
below : {order turns two : ℕ} → turns ≡ div_ceil order 2 → two < turns → 2 * two < order
below e l = omega arith

pub loop-two-init : goal.loop-two-init
loop-two-init c = let a = c.args in no_rows a.order a.sheet.now

pub put_rows-requires : goal.put_rows-requires
put_rows-requires c =
    let inside = below c.div_ceil-two-end.ensures c.loop-two-test.true in
    (c.requires, inside, next_lt c.args.order c.args.sheet.now inside c.min-next.ensures, c.singles-single.ensures)

pub returns-then-not-put_rows : goal.returns-then-not-put_rows
returns-then-not-put_rows c =
    let a = c.args in
    let inside = below c.div_ceil-two-end.ensures c.loop-two-test.true in
    let fails = sym c.put_rows.ensures.value ∙ c.if-not-put_rows.true in
    sym (in_turn a.order a.sheet.now ∙ rw (row_fails a.order a.sheet.now inside c.min-next.ensures fails))

pub loop-two-preserved : goal.loop-two-preserved
loop-two-preserved c =
    let a = c.args in
    let inside = below c.div_ceil-two-end.ensures c.loop-two-test.true in
    let told = c.put_rows.ensures in
    let next : 2 * (c.loop-two.two + 1) ≡ 2 * c.loop-two.two + 2 = omega arith in
    rw next
    (rows_next a.order a.sheet.now inside c.min-next.ensures c.loop-two.invariant (sym told.value ∙ c.if-not-put_rows.false)
    told.firsts told.seconds told.pairs)

pub returns : goal.returns
returns c =
    let a = c.args in
    let past : a.order ≤ 2 * c.loop-two.two = omega (arith, c.div_ceil-two-end.ensures, c.loop-two-test.false) in
    c.is_full.ensures ∙ sym (all_rows a.order a.sheet.now c.requires (2 * c.loop-two.two) past c.loop-two.invariant)
