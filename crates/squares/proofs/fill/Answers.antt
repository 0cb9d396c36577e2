-- `fill` meets its contract: the symbols at a site from 2^m on are those at the site without its highest bit, exclusive or those at 2^m.
use mathlib.Core.Logic.{◌⊎◌, inl, inr}
use mathlib.Core.Path.{◌≡◌, sym, ap, ap₂, ◌∙◌}
use mathlib.Core.List.{List, ◌++◌}
use Prim.Native.Nat.{ℕ, suc, ◌+◌, ◌-◌, ◌*◌, ◌/◌, ◌%◌, ◌^◌, ◌≤◌, ◌<◌}
use native.Mathlib.Nat.{pow-suc, zero-add, mul_comm, mul-add, mul-le-mul_left, mod-lt, div-add-mod, div-lt_iff_lt-mul}
use native.Mathlib.Decide.{dec_lt}
use native.Mathlib.Numerals.{add-one}
use native.Mathlib.Omega.{arith}
use lib.Arith.{digits_lt, digits_mod}
use lib.Bits.{bit_xor}
use borrow.Author.Rules.{rules}
use Rattle.std.proofs.lemmas.List.{places}
use lib.ListN.{length, get_or, take, drop, replicate, length-append, length-drop, length-map, get_or-append}
use lib.Pow.{pow_mono}
use lib.Seq.{length-take-le, get_or-append-add, get_or-drop, ext_get_or}
use Rattle.squares.specs.Replies.{sheet_of}
use Rattle.squares.specs.Doubling.{at_site, unit_symbols, by_turns, Fillable, Added}
use Rattle.squares.proofs.Binary.{site_zero, site_next}
use Rattle.squares.proofs.Sheets.{map_at, square_is, four_pos, sheet_of_length}
use Rattle.squares.proofs.Bytes.{byte_is}
use Rattle.squares.proofs.fill.Invariants.{Filled}
use Rattle.squares.proofs.fill.Goals as goal

twice : (width m : ℕ) → width * 2 ^ suc m ≡ width * 2 ^ m + width * 2 ^ m
twice width m = let e : 2 ^ suc m ≡ 2 ^ m + 2 ^ m = omega (arith, pow-suc 2 m) in rw e (mul-add width (2 ^ m) (2 ^ m))

module _ (n : ℕ) (codes : List ℕ) where
  abbrev width : ℕ
  width = length codes

  module _ (small : (k : ℕ) → k < width → get_or codes k 0 < 2 ^ suc n) where
    -- site 0 shows no ones
    start : {lent out : List ℕ} → length out ≡ length lent → ((k : ℕ) → k < width → get_or out k 0 ≡ 0)
        → ((j : ℕ) → width ≤ j → get_or out j 0 ≡ get_or lent j 0) → Filled n codes 0 lent out
    start {lent} {out} long zeros high = record { long = long; low = low; high = λ j h. high j (omega arith) }
      where
        low : (site : ℕ) {k : ℕ} → site < 2 ^ 0 → k < width → get_or out (width * site + k) 0 ≡ at_site n (get_or codes k 0) site
        low site {k} h hk =
            let e : site ≡ 0 = omega arith in
            let place : width * 0 + k ≡ k = omega arith in
            rw (e, place) (zeros k hk ∙ sym (site_zero n (small k hk)))

    -- twice as many
    turn : {m : ℕ} {lent out out' : List ℕ} → Filled n codes m lent out
        → Added out 0 (width * 2 ^ m) (width * 2 ^ m) (by_turns (unit_symbols n m codes)) out' → Filled n codes (suc m) lent out'
    turn {m} {lent} {out} {out'} s a = record { long = a.long ∙ s.long; low = low; high = high }
      where
        high : (j : ℕ) → width * 2 ^ suc m ≤ j → get_or out' j 0 ≡ get_or lent j 0
        high j h = a.high j (omega (arith, twice width m)) ∙ s.high j (omega (arith, twice width m))

        place_lt : {site k : ℕ} → site < 2 ^ m → k < width → width * site + k < width * 2 ^ m
        place_lt {site} h hk = rw (mul_comm width site, mul_comm width (2 ^ m)) (digits_lt h hk)

        -- the symbol that the pattern has for code k
        part : (site : ℕ) {k : ℕ} → k < width → by_turns (unit_symbols n m codes) (width * site + k) ≡ at_site n (get_or codes k 0) (2 ^ m)
        part site {k} hk =
            let which : (width * site + k) % width ≡ k = rw (mul_comm width site) (digits_mod site hk) in
            rw (length-map codes (λ (code : ℕ). at_site n code (2 ^ m)), which)
            (map_at (λ (code : ℕ). at_site n code (2 ^ m)) 0 0 codes k hk)

        behind : (site : ℕ) {k : ℕ} → site < 2 ^ m → k < width
            → get_or out' (width * (2 ^ m + site) + k) 0 ≡ at_site n (get_or codes k 0) (2 ^ m + site)
        behind site {k} h hk =
            let place : width * (2 ^ m + site) + k ≡ width * 2 ^ m + (width * site + k) = omega (arith, mul-add width (2 ^ m) site) in
            ap (λ (v : ℕ). get_or out' v 0) place ∙ a.new (width * site + k) (place_lt h hk)
            ∙ ap₂ (λ (u v : ℕ). bit_xor u v) (ap (λ (v : ℕ). get_or out v 0) (zero-add (width * site + k)) ∙ s.low site h hk) (part site hk)
            ∙ sym (site_next n m (small k hk) h)

        low : (site : ℕ) {k : ℕ} → site < 2 ^ suc m → k < width
            → get_or out' (width * site + k) 0 ≡ at_site n (get_or codes k 0) site
        low site {k} h hk = elim (dec_lt site (2 ^ m)) [
          | yes l ↦ a.low (width * site + k) (place_lt l hk) ∙ s.low site l hk
          | no l ↦ rest (site - 2 ^ m) (omega arith)
        ]
          where
            rest : (i : ℕ) → site ≡ 2 ^ m + i → get_or out' (width * site + k) 0 ≡ at_site n (get_or codes k 0) site
            rest i e = rw e (behind i (omega (arith, pow-suc 2 m)) hk)

  -- all of them
  finished : (lent : List ℕ) {out : List ℕ} → 0 < width → width * 4 ^ n ≤ length lent → Filled n codes (2 * n) lent out
      → out ≡ sheet_of n codes ++ drop (width * 4 ^ n) lent
  finished lent {out} some room s =
      ext_get_or 0 out (sheet_of n codes ++ drop (width * 4 ^ n) lent) (s.long ∙ sym all) (λ j h. at j)
    where
      all : length (sheet_of n codes ++ drop (width * 4 ^ n) lent) ≡ length lent
      all =
          rw (length-append (sheet_of n codes) (drop (width * 4 ^ n) lent), sheet_of_length n codes, length-drop (width * 4 ^ n) lent)
          (omega arith)

      size : width * 2 ^ (2 * n) ≡ width * 4 ^ n
      size = ap (λ v. width * v) (square_is n)

      -- a byte of the sheet, by its site
      sheet_byte : (j : ℕ) → j < width * 4 ^ n → get_or out j 0 ≡ get_or (sheet_of n codes) j 0
      sheet_byte j l =
          let site : ℕ = j / width in
          let k_lt : j % width < width = mod-lt j some in
          let site-lt : site < 4 ^ n = (div-lt_iff_lt-mul some).1 (rw (mul_comm (4 ^ n) width) l) in
          ap (λ (v : ℕ). get_or out v 0) (sym (div-add-mod j width))
          ∙ s.low site (rw (square_is n) site-lt) k_lt ∙ sym (byte_is n codes site site-lt k_lt)
          ∙ ap (λ (v : ℕ). get_or (sheet_of n codes) v 0) (div-add-mod j width)

      at : (j : ℕ) → get_or out j 0 ≡ get_or (sheet_of n codes ++ drop (width * 4 ^ n) lent) j 0
      at j = elim (dec_lt j (width * 4 ^ n)) [
        | yes l ↦ sheet_byte j l ∙ sym (get_or-append (sheet_of n codes) (drop (width * 4 ^ n) lent) 0 j (rw (sheet_of_length n codes) l))
        | no l ↦ let k : ℕ = j - width * 4 ^ n in
            let whole : j ≡ width * 4 ^ n + k = omega arith in
            let there : j ≡ length (sheet_of n codes) + k = rw (sheet_of_length n codes) whole in
            s.high j (rw size (omega arith)) ∙ ap (λ v. get_or lent v 0) whole
            ∙ sym (ap (λ v. get_or (sheet_of n codes ++ drop (width * 4 ^ n) lent) v 0) there
            ∙ get_or-append-add (sheet_of n codes) (drop (width * 4 ^ n) lent) k 0 ∙ get_or-drop (width * 4 ^ n) lent k 0)
      ]

some : {n : ℕ} {codes : List ℕ} → Fillable n codes → (0 < length codes) × (length codes < 4)
some {codes = codes} given = go given.two_or_three
  where
    go : (length codes ≡ 2) ⊎ (length codes ≡ 3) → (0 < length codes) × (length codes < 4)
    go (inl e) = (omega arith, omega arith)
    go (inr e) = (omega arith, omega arith)

-- there is room for twice as many
enough : (n m width : ℕ) {len len' : ℕ} → m < 2 * n → width * 4 ^ n ≤ len → len' ≡ len → 2 * (width * 2 ^ m) ≤ len'
enough n m width l room same =
    let most : 2 ^ suc m ≤ 4 ^ n = rw (← square_is n) (pow_mono {i = suc m} {j = 2 * n} l) in
    omega (arith, mul-le-mul_left width most, twice width m)

room : (n width : ℕ) {len : ℕ} → width * 4 ^ n ≤ len → width ≤ len
room n width le = omega (arith, mul-le-mul_left width (four_pos n))

-- zeros in front of what was lent
module _ (lent : List ℕ) (w : ℕ) (le : w ≤ length lent) where
  zeroed : List ℕ
  zeroed = replicate (length (take w lent)) 0 ++ drop w lent

  zeroed_length : length zeroed ≡ length lent
  unfolding zeroed
  zeroed_length = search (rules, places)

  zeroed_low : (k : ℕ) → k < w → get_or zeroed k 0 ≡ 0
  unfolding zeroed
  zeroed_low k h = search (rules, places)

  zeroed_high : (j : ℕ) → w ≤ j → get_or zeroed j 0 ≡ get_or lent j 0
  unfolding zeroed
  zeroed_high j h = search (rules, places)

pub slice_bounds-fill-end : goal.slice_bounds-fill-end
slice_bounds-fill-end c = room c.args.n (length c.args.codes.now) c.requires.1

pub slice_bounds-fill-end-2 : goal.slice_bounds-fill-end-2
slice_bounds-fill-end-2 c =
    sym (length-take-le (length c.args.codes.now) c.args.out.now (room c.args.n (length c.args.codes.now) c.requires.1))

pub loop-m-init : goal.loop-m-init
unfolding zeroed
loop-m-init c =
    let lent = c.args.out.now in
    let w = length c.args.codes.now in
    let le : w ≤ length lent = room c.args.n w c.requires.1 in
    let zeros : c.fill.new.self ≡ replicate (length (take w lent)) 0 = c.fill.ensures.after (λ y e. e) in
    rw zeros
    (start c.args.n c.args.codes.now c.requires.0.small (zeroed_length lent w le) (zeroed_low lent w le) (zeroed_high lent w le))

pub double-requires : goal.double-requires
double-requires c = (
  c.requires.0,
  c.loop-m-test.true,
  enough c.args.n c.loop-m.m (length c.args.codes.now) c.loop-m-test.true c.requires.1 c.loop-m.invariant.long,
)

pub loop-m-preserved : goal.loop-m-preserved
loop-m-preserved c =
    rw (add-one c.loop-m.m) (turn c.args.n c.args.codes.now c.requires.0.small c.loop-m.invariant c.double.ensures)

pub returns : goal.returns
returns c =
    let all : c.loop-m.m ≡ 2 * c.args.n = omega arith in
    finished c.args.n c.args.codes.now c.args.out.now (some c.requires.0).0 c.requires.1 (rw all at c.loop-m.invariant)
