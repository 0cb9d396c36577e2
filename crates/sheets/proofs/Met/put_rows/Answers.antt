-- `put_rows` meets its contract: a site's bytes are symbols, whose sets of one are added to the rows' sets and to the tables.
use mathlib.Core.List.{List}
use mathlib.Core.Path.{◌≡◌, refl, sym, ap, ◌∙◌}
use Prim.Native.Nat.{ℕ, ◌+◌, ◌*◌, ◌/◌, ◌^◌, ◌<◌}
use native.Mathlib.Omega.{arith}
use Rattle.squares.specs.Sheets.{shown}
use Rattle.sheets.specs.Inner.{InRange, by_turns}
use Rattle.sheets.proofs.Reading.{Readable, readable, first_shown, second_shown, single, turn_one, turn_other}
use Rattle.sheets.proofs.Reading.{met_next, row_full, put_two}
use Rattle.sheets.proofs.Met.put_rows.Goals as goal

pub loop-col-init : goal.loop-col-init
loop-col-init c = (refl, refl, refl, refl, refl, refl, refl)

-- The two sites of a turn.
record Sites (N : ℕ) (bytes : List ℕ) (row next col : ℕ) : Type 0 where
  one : Readable N bytes row col
  other : Readable N bytes next col
  inside : col < N

here : {N : ℕ} {bytes : List ℕ} {row next col : ℕ} → InRange N bytes → row < N → next < N → col < N → Sites N bytes row next col
here in_range row next inside =
    record { one = readable in_range row inside; other = readable in_range next inside; inside = inside }

pub loop-col-preserved : goal.loop-col-preserved
loop-col-preserved c =
    let a = c.args in
    let N = a.symbols.order in
    let bytes = a.sheet.now in
    let col = c.loop-col.col in
    let inv = c.loop-col.invariant in
    let site = here c.requires.0 c.requires.1 c.requires.2 c.loop-col-test.true in
    let singles = c.requires.3 in
    let f = first_shown N bytes a.row col in
    let h = first_shown N bytes a.next col in
    let f1 = single singles site.one.first f in
    let g1 = single singles site.one.second (second_shown N bytes a.row col) in
    let h1 = single singles site.other.first h in
    let k1 = single singles site.other.second (second_shown N bytes a.next col) in
    let turns : ℕ → ℕ → ℕ = λ k. by_turns N bytes k a.row a.next in
    let one : (k : ℕ) → 2 ^ shown 2 N k bytes a.row col ≡ 2 ^ turns k (2 * col) =
    λ k. ap (λ (s : ℕ). 2 ^ s) (sym (turn_one N bytes k a.row a.next col)) in
    let other : (k : ℕ) → 2 ^ shown 2 N k bytes a.next col ≡ 2 ^ turns k (2 * col + 1) =
    λ k. ap (λ (s : ℕ). 2 ^ s) (sym (turn_other N bytes k a.row a.next col)) in
    let half : col ≡ 2 * col / 2 = omega arith in
    let half' : col ≡ (2 * col + 1) / 2 = omega arith in (
      met_next (shown 2 N 0 bytes a.row) col inv.0 f1,
      met_next (shown 2 N 1 bytes a.row) col inv.1 g1,
      met_next (shown 2 N 0 bytes a.next) col inv.2 h1,
      met_next (shown 2 N 1 bytes a.next) col inv.3 k1,
      c.put_two.ensures
          ∙ put_two (λ j. j / 2) (turns 0) a.self.now.firsts col inv.4 half (f1 ∙ one 0) half' (h1 ∙ other 0),
      c.put_two-in-loop-col.ensures
          ∙ put_two (λ j. j / 2) (turns 1) a.self.now.seconds col inv.5 half (g1 ∙ one 1) half' (k1 ∙ other 1),
      c.put_two-in-loop-col-2.ensures
          ∙ put_two (turns 0) (turns 1) a.self.now.pairs col inv.6 (f ∙ sym (turn_one N bytes 0 a.row a.next col)) (g1 ∙ one 1)
          (h ∙ sym (turn_other N bytes 0 a.row a.next col)) (k1 ∙ other 1),
    )

-- both rows, and of the one that fails the other is not tried
pub returns-then-both_full-clause-value : goal.returns-then-both_full-clause-value
returns-then-both_full-clause-value c =
    let loop = c.loop-col in
    let (in_range, row, next, _) = c.requires in
    let all : loop.col ≡ c.args.symbols.order = omega arith in
    let passes = sym (row_full in_range c.args.row row all loop.invariant.0 loop.invariant.1)
    ∙ sym c.both_full.ensures
    ∙ c.if-both_full.true in
    rw passes (c.both_full-then-both_full.ensures ∙ row_full in_range c.args.next next all loop.invariant.2 loop.invariant.3)

pub returns-else-both_full-clause-value : goal.returns-else-both_full-clause-value
returns-else-both_full-clause-value c =
    let loop = c.loop-col in
    let (in_range, row, _, _) = c.requires in
    let all : loop.col ≡ c.args.symbols.order = omega arith in
    let fails = sym (row_full in_range c.args.row row all loop.invariant.0 loop.invariant.1)
    ∙ sym c.both_full.ensures
    ∙ c.if-both_full.false in
    c.if-both_full.false ∙ rw fails
