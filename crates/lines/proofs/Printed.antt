-- Fillings one after the other give the whole list: each puts the lines from its position on, so that the next goes on behind them.
use mathlib.Core.Bool.{false}
use mathlib.Core.List.{List, [], ◌∷◌, ◌++◌}
use mathlib.Core.Path.{◌≡◌, refl, sym, ap, ◌∙◌}
use Prim.Native.Nat.{ℕ, zero, suc, ◌+◌, ◌-◌, ◌^◌, ◌≤◌, ◌<◌}
use native.Mathlib.Decide.{dec_lt}
use native.Mathlib.Nat.{pow-le-pow_right}
use native.Mathlib.Omega.{arith}
use borrow.Author.Tests.{le-leb, ne_eqb}
use lib.Dec.{lit<}
use lib.ListN.{length, drop, length-append, length-drop, drop_of_length-le}
use lib.Seq.{drop-cons, drop-drop}
use Rattle.loops.specs.Loops.{numbers, each}
use Rattle.loops.proofs.Loops.{each_map}
use Rattle.poly.specs.Limits.{outside, list_length}
use Rattle.poly.proofs.Ranges.{within, inside, list_length_lt}
use Rattle.pairs.specs.Pairs.{entry}
use Rattle.pairs.proofs.Pairs.{length_pairs}
use Rattle.pairs.proofs.Standing.{entries_coprime, pair_answers}
use Rattle.lines.specs.Text.{decimal, line}
use Rattle.lines.specs.Output.{first_line, entry_line, printed}
use Rattle.lines.specs.Filling.{joined, fitting_lines, entry_lines, filled, Fills}
use Rattle.lines.specs.Claims.{pieces, PrintClaim}
use Rattle.lines.proofs.Decimals.{decimal_short}
use Rattle.lines.proofs.Lines.{line_some}
use Rattle.lines.proofs.Inputs.{input_asks}
use Rattle.lines.proofs.Block.{listed_entries}
use Rattle.lines.proofs.Fitting.{joined_append, fitting_front, fitting_few}

some_lines : (lines : List (List ℕ)) → (length (joined lines) ≡ 0 → ⊥) → 0 < length lines
some_lines [] ne = absurd (ne refl)
some_lines (l ∷ lines) ne = omega arith

-- A filling that is not empty goes on, and stops at the list's end at the latest.
pub fills_on : {n position : ℕ} {out : List ℕ} {used next : ℕ} {out' : List ℕ} → Fills n position out used next out' → (used ≡ 0 → ⊥)
    → (position < next) × (next ≤ length (entry_lines n))
unfolding filled
fills_on {n} {position} {out} {used} f ne =
    let some : 0 < length (filled n position (length out)) = some_lines (filled n position (length out)) (λ e. ne (f.bytes.size ∙ e)) in
    let few = fitting_few (length out) (drop position (entry_lines n)) in
    (omega (arith, f.stop), omega (arith, f.stop, length-drop position (entry_lines n)))

-- Three numbers of 64 bits, each with the byte that ends it.
line_size : (a b c : ℕ) → a < 2 ^ 64 → b < 2 ^ 64 → c < 2 ^ 64 → length (line (a ∷ b ∷ c ∷ [])) ≤ 63
line_size a b c ha hb hc =
    let da = decimal_short a ha in
    let db = decimal_short b hb in
    let dc = decimal_short c hc in
    let la = length-append (decimal a) (32 ∷ line (b ∷ c ∷ [])) in
    let lb = length-append (decimal b) (32 ∷ line (c ∷ [])) in
    let lc = length-append (decimal c) (10 ∷ []) in
    omega arith

module _ (n : ℕ) (on : outside 1 31 n ≡ false) where
  entry_size : (j : ℕ) → j < list_length n → (1 ≤ length (entry_line n j)) × (length (entry_line n j) ≤ 63)
  entry_size j h =
      let (low, high) = within 1 31 on in
      let pair = entries_coprime n j (rw length_pairs h) in
      let top : 2 ^ suc n ≤ 2 ^ 32 = pow-le-pow_right (lit< tt) {i = suc n} {j = 32} (omega arith) in
      rw (pair_answers n low high j h) (
        line_some j (entry n j).f (entry n j).g,
        line_size j (entry n j).f (entry n j).g (omega (arith, list_length_lt n high)) (omega (arith, pair.degree_f.high))
            (omega (arith, pair.degree_g.high)),
      )

  module _ (room : ℕ) (wide : 64 ≤ room) where
    -- Before the list's end a filling is not empty.
    filled_some : (position : ℕ) → position < list_length n → 1 ≤ length (joined (filled n position room))
    unfolding filled
    filled_some position h =
        let entries = listed_entries n on in
        let size = entry_size position h in
        let next : drop position (entry_lines n) ≡ entry_line n position ∷ drop (suc position) (entry_lines n) =
        drop-cons (entry_lines n) position [] (rw entries.long h)
        ∙ ap (λ l. l ∷ drop (suc position) (entry_lines n)) (entries.stands position h) in
        let others : List (List ℕ) = fitting_lines (room - length (entry_line n position)) (drop (suc position) (entry_lines n)) in
        rw (next, le-leb (length (entry_line n position)) room (omega arith))
        (omega (arith, length-append (entry_line n position) (joined others)))

    no_lines : (position : ℕ) → list_length n ≤ position → drop position (entry_lines n) ≡ []
    no_lines position h = drop_of_length-le (entry_lines n) {i = position} (omega (arith, (listed_entries n on).long))

    filled_none : (position : ℕ) → list_length n ≤ position → filled n position room ≡ []
    unfolding filled
    filled_none position h = rw (no_lines position h)

    filled_front : (position : ℕ)
        → joined (filled n position room) ++ joined (drop (position + length (filled n position room)) (entry_lines n))
        ≡ joined (drop position (entry_lines n))
    unfolding filled
    filled_front position =
        let front = fitting_front room (drop position (entry_lines n)) in
        sym (joined_append (filled n position room) _) ∙ ap joined (rw drop-drop at front)

    pieces_are : (times position : ℕ) → list_length n ≤ position + times
        → pieces times n position room ≡ joined (drop position (entry_lines n))
    pieces_are zero position enough = rw (no_lines position (omega arith))
    pieces_are (suc times) position enough = elim (dec_lt position (list_length n)) [
      | yes h ↦
          let some = filled_some position h in
          let on : 0 < length (filled n position room) = some_lines (filled n position room) (λ z. omega arith) in
          let rest = pieces_are times (position + length (filled n position room)) (omega arith) in
          rw (ne_eqb (length (joined (filled n position room))) 0 (λ z. omega arith))
          (ap (λ more. joined (filled n position room) ++ more) rest ∙ filled_front position)
      | no h ↦ let end : list_length n ≤ position = omega arith in rw (filled_none position end, no_lines position end)
    ]

pub prints_all : PrintClaim
unfolding entry_lines
prints_all input n room times e wide enough =
    let (low, high) = within 1 10 (input_asks input e) in
    let on : outside 1 31 n ≡ false = inside 1 31 low (omega arith) in
    let list : joined (entry_lines n) ≡ each (numbers 0 (list_length n)) (entry_line n) =
    rw on (each_map (λ l. l) (entry_line n) (numbers 0 (list_length n))) in
    ap (λ more. first_line n ++ more) (pieces_are n on room wide times 0 (omega arith) ∙ list) ∙ sym (ap printed e)
