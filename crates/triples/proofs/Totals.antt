-- How many triples begin with a code, computed for all codes at once from the sets of coprime ones; and how many there are of each degree.
use Prim.Native.Nat.{ℕ, ◌+◌, ◌^◌, ◌≤◌, ◌<◌}
use native.Mathlib.Nat.{zero-add}
use native.Mathlib.Omega.{arith}
use mathlib.Core.List.{List, [], ◌∷◌, map, Memᴰ}
use mathlib.Core.Path.{◌≡◌, refl, sym, ap, ap₂, ◌∙◌}
use lib.Bits.{bit_and}
use lib.Dec.{lit<, ltb, ltb→lt}
use lib.ListN.{length, get_or}
use Rattle.loops.specs.Loops.{numbers, each}
use Rattle.loops.proofs.Entries.{entry, at_place}
use Rattle.loops.proofs.Loops.{total, length_total, each_map}
use Rattle.loops.proofs.Members.{in_numbers, total_same}
use Rattle.poly.specs.Code.{degree}
use Rattle.codes.specs.Sets.{members}
use Rattle.codes.specs.Codes.{from_half, coprimes_of}
use Rattle.codes.proofs.Rows.{rows, computed}
use Rattle.codes.proofs.Sets.{members_lt}
use Rattle.codes.proofs.Halves.{least, code_at, doubled, codes_odd, Half, half_at, half_lt, odd_degree, set_below_lem}
use Rattle.triples.specs.Triples.{beginning_with, triples}
use Rattle.triples.specs.Claims.{LengthsClaim}
use Rattle.triples.proofs.Beginnings.{behind, beginning_sets, two_count}

-- ---- a row of the table of sets
row_at : (half : ℕ) → half < 64 → coprimes_of half ≡ get_or rows half 0
unfolding rows
row_at half h = sym (at_place coprimes_of rows computed half h)

-- ---- the count, from the rows
from_rows : ℕ → ℕ
from_rows half =
    let set : ℕ = get_or rows half 0 in
    total (λ k. length (members (bit_and set (get_or rows (least (degree 2 (from_half half)) + k) 0)))) (members set)

count_rows : {n half : ℕ} → Half n half → from_rows half ≡ length (beginning_with n (from_half half))
unfolding from_rows
count_rows {n} {half} code =
    rw (odd_degree code, ← row_at half (half_lt code)) (total_same _ _ (members (coprimes_of half)) same)
    ∙ sym (ap length (beginning_sets code) ∙ length_total (behind n half) (members (coprimes_of half)))
  where
    same : (k : ℕ) → Memᴰ k (members (coprimes_of half))
        → length (members (bit_and (coprimes_of half) (get_or rows (least n + k) 0))) ≡ length (behind n half k)
    same k m =
        let k_lt : k < least n = members_lt (least n) (coprimes_of half) (set_below_lem code) m in
        rw (← row_at (least n + k) (half_lt (half_at code k_lt))) (sym (two_count code k k_lt))

unfoldable pub counts : List ℕ
counts =
    0 ∷ 0 ∷ 0 ∷ 0 ∷ 2 ∷ 4 ∷ 4 ∷ 2 ∷ 12 ∷ 28 ∷ 24 ∷ 12 ∷ 28 ∷ 6 ∷ 12 ∷ 28 ∷ 54 ∷ 90 ∷ 140 ∷ 42 ∷ 140 ∷ 54 ∷ 30 ∷ 140 ∷ 90 ∷ 54 ∷ 54 ∷
    140 ∷ 42 ∷ 140 ∷ 140 ∷ 30 ∷ 128 ∷ 620 ∷ 528 ∷ 224 ∷ 620 ∷ 170 ∷ 224 ∷ 384 ∷ 528 ∷ 90 ∷ 224 ∷ 620 ∷ 224 ∷ 620 ∷ 384 ∷ 200 ∷ 620 ∷
    200 ∷ 90 ∷ 620 ∷ 170 ∷ 408 ∷ 620 ∷ 224 ∷ 224 ∷ 620 ∷ 620 ∷ 128 ∷ 384 ∷ 224 ∷ 200 ∷ 434 ∷ []

rows_computed : map from_rows (numbers 0 64) ≡ counts
unfolding from_rows counts rows members degree
rows_computed = refl

pub count_at : {n half : ℕ} → Half n half → get_or counts half 0 ≡ length (beginning_with n (from_half half))
unfolding counts
count_at {half = half} code = at_place from_rows counts rows_computed half (half_lt code) ∙ count_rows code

pub count_fits : (half : ℕ) → half < 64 → get_or counts half 0 < 2 ^ 32
unfolding counts
count_fits half h = ltb→lt (get_or counts half 0) (2 ^ 32) (entry (λ k x. ltb x (2 ^ 32)) counts tt half h)

-- ---- how many there are
triples_total : (n : ℕ) → 1 ≤ n → n ≤ 6 → length (triples n) ≡ total (λ k. get_or counts (least n + k) 0) (numbers 0 (least n))
unfolding triples counts
triples_total n low high =
    ap (λ (fs : List ℕ). length (each fs (beginning_with n))) (codes_odd n low)
    ∙ ap length (each_map (beginning_with n) (code_at n) (numbers 0 (least n)))
    ∙ length_total (λ k. beginning_with n (code_at n k)) (numbers 0 (least n))
    ∙ total_same _ _ (numbers 0 (least n))
    (λ k m.
    let k_lt : k < least n = rw zero-add at (in_numbers 0 (least n) m).1 in
    let code : Half n (least n + k) =
    record { low = low; high = high; from = omega arith; below = omega (arith, doubled n low) } in
    sym (count_at code))

pub lengths_computed : LengthsClaim
unfolding counts
lengths_computed =
    ap₂ ◌∷◌ (triples_total 2 (lit< tt) (lit< tt))
    (ap₂ ◌∷◌ (triples_total 3 (lit< tt) (lit< tt))
    (ap₂ ◌∷◌ (triples_total 4 (lit< tt) (lit< tt))
    (ap₂ ◌∷◌ (triples_total 5 (lit< tt) (lit< tt))
    (ap₂ ◌∷◌ (triples_total 6 (lit< tt) (lit< tt)) refl))))
