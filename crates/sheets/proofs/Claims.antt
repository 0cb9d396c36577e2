-- The claims about the check of a sheet, from what its tests mean.
use mathlib.Core.Bool.{true, not, ◌&&◌}
use mathlib.Core.List.{List, [], ◌∷◌}
use mathlib.Core.Path.{◌≡◌, refl, sym, ap, ap₂, ◌∙◌}
use Prim.Native.Nat.{ℕ, zero, suc, ◌+◌, ◌*◌, ◌/◌, ◌%◌, ◌^◌, ◌≤◌, ◌<◌}
use native.Mathlib.Nat.{le_refl, mod-lt, div-add-mod', div-lt_iff_lt-mul}
use native.Mathlib.Decide.{dec_lt}
use native.Mathlib.Omega.{arith}
use lib.Arith.{digits_lt}
use lib.Dec.{ltb}
use lib.ListN.{length, get_or, take, length-append}
use lib.Pow.{pow_mono}
use lib.Seq.{length-take-le, take_all, get_or-take}
use borrow.Author.Tests.{ltb-false, le-ltb, lt-ltb, not-false}
use Rattle.reply.specs.Reply.{served}
use Rattle.reply.proofs.Order.{none_applies, none_refuses}
use Rattle.poly.proofs.Ranges.{within, inside}
use Rattle.squares.specs.Squares.{Square, Latin}
use Rattle.squares.specs.Sheets.{shown}
use Rattle.squares.specs.Replies.{sheet_causes, sheet_reply_of, sheet_bytes_of, sheet_bytes}
use Rattle.squares.specs.Claims.{SquaresShown}
use Rattle.squares.proofs.Agreeing.{Agree, latin_same, orthogonal_same}
use Rattle.squares.proofs.Sheets.{four_pow, sheet_of_length}
use Rattle.squares.proofs.Claims.{sheet_squares}
use Rattle.sheets.specs.Counting.{is_latin, is_orthogonal, is_graeco_latin}
use Rattle.sheets.specs.Replies.{sheet_size, check_causes, check_sheet_reply}
use Rattle.sheets.specs.Claims.{GraecoLatinSheet, PassClaim, BehindClaim, WrittenClaim}
use Rattle.sheets.proofs.Below.{same_truth, both_true, all_true, all_same}
use Rattle.sheets.proofs.Meaning.{latin_means, latin_below, orthogonal_means}

-- every byte of two Latin squares laid together is a symbol
bytes_below : (N : ℕ) (bytes : List ℕ) → 0 < N → Latin N (shown 2 N 0 bytes) → Latin N (shown 2 N 1 bytes)
    → (i : ℕ) → i < sheet_size N → get_or bytes i 0 < N
unfolding shown
bytes_below N bytes pos first second i h = go (i % 2) refl (mod-lt i (omega arith))
  where
    s : ℕ
    s = i / 2

    row_lt : s / N < N
    row_lt = (div-lt_iff_lt-mul pos).1 (omega arith)

    place : (k : ℕ) → i % 2 ≡ k → 2 * (s / N * N + s % N) + k ≡ i
    place k e = ap (λ (v : ℕ). 2 * v + k) (div-add-mod' s N) ∙ omega arith

    go : (k : ℕ) → i % 2 ≡ k → k < 2 → get_or bytes i 0 < N
    go zero e l = rw (← place 0 e) (latin_below N (shown 2 N 0 bytes) first (s / N) (s % N) row_lt (mod-lt s pos))
    go (suc zero) e l = rw (← place 1 e) (latin_below N (shown 2 N 1 bytes) second (s / N) (s % N) row_lt (mod-lt s pos))
    go (suc (suc k)) e l = absurd (omega arith)

pub passes_good : PassClaim
unfolding check_sheet_reply
passes_good N bytes = (passing, good)
  where
    first : Square
    first = shown 2 N 0 bytes

    second : Square
    second = shown 2 N 1 bytes

    passing : check_sheet_reply N bytes ≡ served [] → GraecoLatinSheet N bytes
    passing e =
        let (in_range, (enough, (symbols, (together, _)))) = none_applies (check_causes N bytes) [] [] e in
        let (low, high) = within 3 64 in_range in
        let (both, pairs) = both_true (is_latin N first && is_latin N second) (is_orthogonal N first second) (not-false _ together) in
        let (one, other) = both_true (is_latin N first) (is_latin N second) both in
        record {
          low = low;
          high = high;
          long = ltb-false (length bytes) (sheet_size N) enough;
          first_latin = (latin_means N first).0 one;
          second_latin = (latin_means N second).0 other;
          orthogonal = (orthogonal_means N first second).0 pairs;
        }

    good : GraecoLatinSheet N bytes → check_sheet_reply N bytes ≡ served []
    good g = none_refuses (check_causes N bytes) (served []) (
      inside 3 64 g.low g.high,
      (
        le-ltb (length bytes) (sheet_size N) g.long,
        (
          ap not (all_true (λ i. ltb (get_or bytes i 0) N) (sheet_size N)
              (λ i h. lt-ltb (get_or bytes i 0) N (bytes_below N bytes (omega (arith, g.low)) g.first_latin g.second_latin i h))),
          (
            ap not (ap₂ ◌&&◌ (ap₂ ◌&&◌ ((latin_means N first).1 g.first_latin) ((latin_means N second).1 g.second_latin))
                ((orthogonal_means N first second).1 g.orthogonal)),
            tt,
          ),
        ),
      ),
    )

-- squares with the same symbols pass together
together_same : (N : ℕ) {first second first' second' : Square} → Agree N first first' → Agree N second second'
    → is_graeco_latin N first second ≡ true → is_graeco_latin N first' second' ≡ true
together_same N {first} {second} {first'} {second'} same same' e =
    let (both, pairs) = both_true (is_latin N first && is_latin N second) (is_orthogonal N first second) e in
    let (one, other) = both_true (is_latin N first) (is_latin N second) both in
    ap₂ ◌&&◌ (ap₂ ◌&&◌ ((latin_means N first').1 (latin_same N same ((latin_means N first).0 one)))
    ((latin_means N second').1 (latin_same N same' ((latin_means N second).0 other))))
    ((orthogonal_means N first' second').1 (orthogonal_same N same same' ((orthogonal_means N first second).0 pairs)))

pub behind_unread : BehindClaim
unfolding check_sheet_reply shown
behind_unread N bytes = go (dec_lt (length bytes) (sheet_size N))
  where
    sheet : List ℕ
    sheet = take (sheet_size N) bytes

    symbol : (i : ℕ) → i < sheet_size N → get_or bytes i 0 ≡ get_or sheet i 0
    symbol i h = sym (get_or-take (sheet_size N) bytes i 0 h)

    agree : (k : ℕ) → k < 2 → Agree N (shown 2 N k bytes) (shown 2 N k sheet)
    agree k hk row col hr hc = let site : row * N + col < N * N = digits_lt hr hc in symbol (2 * (row * N + col) + k) (omega arith)

    back : (k : ℕ) → k < 2 → Agree N (shown 2 N k sheet) (shown 2 N k bytes)
    back k hk row col hr hc = sym (agree k hk row col hr hc)

    two : 1 < 2
    two = omega arith

    zero_two : 0 < 2
    zero_two = omega arith

    go : Dec (length bytes < sheet_size N) → check_sheet_reply N bytes ≡ check_sheet_reply N sheet
    go (yes short) = ap (check_sheet_reply N) (sym (take_all (sheet_size N) bytes (omega arith)))
    go (no long) =
        let enough : sheet_size N ≤ length bytes = omega arith in
        rw (
          length-take-le (sheet_size N) bytes enough,
          le-ltb (length bytes) (sheet_size N) enough,
          le-ltb (sheet_size N) (sheet_size N) (le_refl (sheet_size N)),
          all_same (λ i. ltb (get_or bytes i 0) N) (λ i. ltb (get_or sheet i 0) N) (sheet_size N)
              (λ i h. ap (λ (v : ℕ). ltb v N) (symbol i h)),
          same_truth (is_graeco_latin N (shown 2 N 0 bytes) (shown 2 N 1 bytes)) (is_graeco_latin N (shown 2 N 0 sheet) (shown 2 N 1 sheet))
              (together_same N (agree 0 zero_two) (agree 1 two)) (together_same N (back 0 zero_two) (back 1 two)),
        )

pub written_passes : WrittenClaim
unfolding sheet_reply_of sheet_bytes_of
written_passes n f g lent is_served =
    (passes_good (2 ^ n) bytes).1
    (record {
      low = omega (arith, pow_mono in_range.0);
      high = pow_mono in_range.1;
      long = long;
      first_latin = shown_squares.latin 0 (omega arith);
      second_latin = shown_squares.latin 1 (omega arith);
      orthogonal = shown_squares.orthogonal 0 1 (omega arith) (omega arith) (λ e. omega arith);
    })
  where
    codes : List ℕ
    codes = f ∷ g ∷ []

    bytes : List ℕ
    bytes = sheet_bytes n f g lent

    shown_squares : SquaresShown 2 (2 ^ n) bytes
    shown_squares = sheet_squares n codes lent is_served

    in_range : (2 ≤ n) × (n ≤ 6)
    in_range = within 2 6 (none_applies (sheet_causes n codes (length lent)) [] [] is_served).0

    long : sheet_size (2 ^ n) ≤ length bytes
    long = rw (is_served, length-append) (omega (arith, sheet_of_length n codes, four_pow n))
