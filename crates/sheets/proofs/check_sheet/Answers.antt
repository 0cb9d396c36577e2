-- `check_sheet` meets its contract: each refusal is the first cause that applies.
use mathlib.Core.Logic.{◌⊎◌, inl, inr}
use mathlib.Core.Path.{◌≡◌, sym, ◌∙◌}
use Prim.Native.Nat.{ℕ, ◌≤◌, ◌<◌}
use native.Mathlib.Omega.{arith}
use lib.Dec.{ltb}
use lib.ListN.{length, get_or, take}
use lib.Seq.{length-take-le}
use mathlib.Core.Bool.{Bool, true, not}
use mathlib.Core.List.{List, [], ◌∷◌}
use Rattle.reply.specs.Reply.{served, ◌gives◌, unless}
use Rattle.squares.specs.Sheets.{shown}
use Rattle.sheets.specs.Counting.{all_below, is_graeco_latin}
use Rattle.sheets.specs.Inner.{InRange}
use Rattle.sheets.proofs.Claims.{behind_unread}
use borrow.Author.Rules.{rules}
use borrow.Author.Tests.{lt-ltb, le-ltb, ltb-true}
use Rattle.std.specs.Prelude.{Some}
use Rattle.std.specs.Range.{TellsInRangeInclusive}
use Rattle.std.specs.Ordering.{nat_cmp}
use Rattle.sheets.specs.Replies.{sheet_size, check_sheet_reply}
use Rattle.poly.proofs.Ranges.{outside_below, outside_above, inside}
use Rattle.sheets.proofs.Below.{all_at}
use Rattle.sheets.proofs.check_sheet.Goals as goal

-- what the test of the order tells
tested : {a b n : ℕ} {r : Bool} → TellsInRangeInclusive (λ (x y : ℕ). Some (nat_cmp x y)) a b n r → a ≡ 3 → b ≡ 64 → r ≡ true
    → (3 ≤ n) × (n ≤ 64)
tested told a b e = let known = rw (a, b, e) at told in (search rules, search rules)

pub returns-then-not-contains : goal.returns-then-not-contains
unfolding check_sheet_reply
returns-then-not-contains c =
    let out : (c.args.order < 3) ⊎ (64 < c.args.order) = search rules in
    elim out [ inl low ↦ rw (outside_below 3 64 low) | inr high ↦ rw (outside_above 3 64 high) ]

pub returns-then-sheet-size : goal.returns-then-sheet-size
unfolding check_sheet_reply
returns-then-sheet-size c =
    let (low, high) = tested c.contains.ensures.cases c.new.ensures.start c.new.ensures.end c.if-not-contains.false in
    rw (inside 3 64 low high, lt-ltb _ _ c.if-sheet-size.true)

-- the sheet alone, whose bytes are as many as it is to have
module _ (N : ℕ) (bytes : List ℕ) (enough : sheet_size N ≤ length bytes) where
  sheet : List ℕ
  sheet = take (sheet_size N) bytes

  whole : length sheet ≡ sheet_size N
  unfolding sheet
  whole = length-take-le (sheet_size N) bytes enough

  module _ (low : 3 ≤ N) (high : N ≤ 64) {symbols : Bool} (told : symbols ≡ all_below (length sheet) (λ i. ltb (get_or sheet i 0) N)) where
    -- past the order and the length
    past : check_sheet_reply N bytes
        ≡ unless (not symbols gives 27 ∷ not (is_graeco_latin N (shown 2 N 0 sheet) (shown 2 N 1 sheet)) gives 28 ∷ []) (served [])
    unfolding check_sheet_reply sheet
    past =
        behind_unread N bytes
        ∙ rw (inside 3 64 low high, le-ltb (length sheet) (sheet_size N) (omega (arith, whole)), told, whole)

    in_range : symbols ≡ true → InRange N sheet
    in_range all = record {
      some = omega arith;
      few = high;
      long = omega (arith, whole);
      symbols = λ i h. ltb-true _ _ (all_at (λ i. ltb (get_or sheet i 0) N) _ (rw whole at (sym told ∙ all)) i h);
    }

pub returns-then-not-all_symbols : goal.returns-then-not-all_symbols
unfolding sheet
returns-then-not-all_symbols c =
    let a = c.args in
    let (low, high) = tested c.contains.ensures.cases c.new.ensures.start c.new.ensures.end c.if-not-contains.false in
    rw (past a.order a.sheet.now c.if-sheet-size.false low high c.all_symbols.ensures, c.if-not-all_symbols.true)

pub graeco_latin-requires : goal.graeco_latin-requires
unfolding sheet
graeco_latin-requires c =
    let a = c.args in
    let (low, high) = tested c.contains.ensures.cases c.new.ensures.start c.new.ensures.end c.if-not-contains.false in
    in_range a.order a.sheet.now c.if-sheet-size.false low high c.all_symbols.ensures c.if-not-all_symbols.false

pub returns-then-not-graeco_latin : goal.returns-then-not-graeco_latin
unfolding sheet
returns-then-not-graeco_latin c =
    let a = c.args in
    let (low, high) = tested c.contains.ensures.cases c.new.ensures.start c.new.ensures.end c.if-not-contains.false in
    rw (
      past a.order a.sheet.now c.if-sheet-size.false low high c.all_symbols.ensures,
      c.if-not-all_symbols.false,
      sym c.graeco_latin.ensures ∙ c.if-not-graeco_latin.true,
    )

pub returns : goal.returns
unfolding sheet
returns c =
    let a = c.args in
    let (low, high) = tested c.contains.ensures.cases c.new.ensures.start c.new.ensures.end c.if-not-contains.false in
    rw (
      past a.order a.sheet.now c.if-sheet-size.false low high c.all_symbols.ensures,
      c.if-not-all_symbols.false,
      sym c.graeco_latin.ensures ∙ c.if-not-graeco_latin.false,
    )
