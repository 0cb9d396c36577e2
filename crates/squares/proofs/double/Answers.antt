-- `double` meets its contract: the size that is doubled is part of one block, or some whole blocks of 64 sites.
use mathlib.Core.Logic.{◌⊎◌, inl, inr}
use mathlib.Core.Path.{◌≡◌, sym, ap, ◌∙◌}
use mathlib.Core.List.{List}
use Prim.Native.Nat.{ℕ, ◌+◌, ◌-◌, ◌*◌, ◌/◌, ◌%◌, ◌^◌, ◌≤◌, ◌<◌}
use native.Mathlib.Nat.{mod-lt, mul-le-mul_left, mul_comm, mul_assoc, add-zero, div-add-mod', mul-add-mod_self_right}
use native.Mathlib.Decide.{dec_lt}
use native.Mathlib.Omega.{arith}
use borrow.Author.Rules.{rules}
use lib.Arith.{digits_mod}
use lib.Bits.{bit_xor}
use lib.ListN.{length, get_or, take, length-map}
use lib.Pow.{pow_mono, pow-add, shl_exact}
use lib.Seq.{length-take-le, get_or-take}
use Rattle.squares.specs.Doubling.{at_site, unit_symbols, by_turns, Repeated, Whole, Fillable, Added}
use Rattle.squares.proofs.double.Goals as goal

module _ (width m : ℕ) (m-few : m < 12) where
  -- the size that is doubled
  size_is : width < 4 → width * 2 ^ m % 2 ^ 64 ≡ width * 2 ^ m
  size_is l = shl_exact {a = width} 2 m 64 l (omega arith)

  size_few : width * 2 ^ m ≤ width * 2 ^ 11
  size_few = mul-le-mul_left width (pow_mono {i = m} {j = 11} (omega arith))

  whole_size : 0 < width → Whole (64 * width) (width * 2 ^ m)
  whole_size some = elim (dec_lt m 6) [
    | yes l ↦ inl (let most : width * 2 ^ m ≤ width * 2 ^ 5 = mul-le-mul_left width (pow_mono {i = m} {j = 5} (omega arith)) in omega arith)
    | no l ↦ inr (blocks (m - 6) (omega arith))
  ]
    where
      blocks : (k : ℕ) → m ≡ 6 + k → width * 2 ^ m % (64 * width) ≡ 0
      blocks k e =
          let whole : width * 2 ^ m ≡ 2 ^ k * (64 * width) + 0 =
          rw (e, pow-add 2 6 k)
          (mul_comm width (64 * 2 ^ k) ∙ ap (λ v. v * width) (mul_comm 64 (2 ^ k)) ∙ mul_assoc (2 ^ k) 64 width ∙ sym (add-zero _)) in
          rw whole (digits_mod (2 ^ k) (omega arith))

-- what the pattern adds
module _ (symbols pattern : List ℕ) (some : 0 < length symbols) (long : 64 * length symbols ≤ length pattern) where
  abbrev block : ℕ
  block = 64 * length symbols

  turns : Repeated symbols pattern → (i : ℕ) → by_turns (take block pattern) i ≡ by_turns symbols i
  turns r i =
      let rest : ℕ = i % block in
      let inside : rest < block = mod-lt i (omega arith) in
      let whole : i ≡ i / block * 64 * length symbols + rest =
      sym (div-add-mod' i block) ∙ ap (λ v. v + rest) (sym (mul_assoc (i / block) 64 (length symbols))) in
      let same : rest % length symbols ≡ i % length symbols =
      sym (ap (λ v. v % length symbols) whole ∙ mul-add-mod_self_right (i / block * 64) (length symbols) rest) in
      ap (λ v. get_or (take block pattern) (i % v) 0) (length-take-le block pattern long)
      ∙ get_or-take block pattern rest 0 inside ∙ r.at rest inside ∙ ap (λ v. get_or symbols v 0) same

same_pattern : {out out' : List ℕ} {size size' : ℕ} {p q : ℕ → ℕ} → size ≡ size' → ((i : ℕ) → p i ≡ q i)
    → Added out 0 size size p out' → Added out 0 size' size' q out'
same_pattern {out} e same a = rw (← e) record {
  long = a.long;
  low = a.low;
  new = λ i h. a.new i h ∙ ap (bit_xor (get_or out (0 + i) 0)) (same i);
  high = a.high;
}

-- the block that is passed
module _ {n m : ℕ} {codes : List ℕ} (pattern : List ℕ) (given : Fillable n codes) (l : m < 2 * n) (whole : length pattern ≡ 192) where
  abbrev w : ℕ
  w = length codes

  abbrev size : ℕ
  size = w * 2 ^ m % 2 ^ 64

  few : m < 12
  few = let n_few : n < 7 = given.few in omega arith

  wide : (0 < w) × (w < 4)
  wide = go given.two_or_three
    where
      go : (w ≡ 2) ⊎ (w ≡ 3) → (0 < w) × (w < 4)
      go (inl e) = (omega arith, omega arith)
      go (inr e) = (omega arith, omega arith)

  small : 64 * w ≤ length pattern
  small = omega (arith, wide)

  taken : length (take (64 * w) pattern) ≡ 64 * w
  taken = length-take-le (64 * w) pattern small

  asked : {len : ℕ} → 2 * (w * 2 ^ m) ≤ len
      → (let block : ℕ = length (take (64 * w) pattern) in
      (size ≤ 6144) × (2 * size ≤ len) × (0 < block) × (block ≤ 192) × Whole block size)
  asked room =
      rw (taken, size_is w m few wide.1)
      (omega (arith, wide, size_few w m few), room, omega (arith, wide), omega (arith, wide), whole_size w m few wide.0)

  doubled : {out out' : List ℕ} → Repeated (unit_symbols n m codes) pattern
      → Added out 0 size size (by_turns (take (64 * w) pattern)) out'
      → Added out 0 (w * 2 ^ m) (w * 2 ^ m) (by_turns (unit_symbols n m codes)) out'
  doubled r =
      let symbols : List ℕ = unit_symbols n m codes in
      let as_many : length symbols ≡ w = length-map codes (λ (code : ℕ). at_site n code (2 ^ m)) in
      same_pattern (size_is w m few wide.1)
      (λ i. ap (λ (v : ℕ). by_turns (take (64 * v) pattern) i) (sym as_many)
      ∙ turns symbols pattern (omega (arith, wide)) (omega (arith, wide, as_many)) r i)

pub slice_bounds-pattern-end : goal.slice_bounds-pattern-end
slice_bounds-pattern-end c = small c.put_pattern.new.pattern c.requires.0 c.requires.1 (search rules)

pub slice_bounds-add-end : goal.slice_bounds-add-end
slice_bounds-add-end c = sym (taken c.put_pattern.new.pattern c.requires.0 c.requires.1 (search rules))

pub add-requires : goal.add-requires
add-requires c = asked c.put_pattern.new.pattern c.requires.0 c.requires.1 (search rules) c.requires.2

pub returns : goal.returns
returns c = doubled c.put_pattern.new.pattern c.requires.0 c.requires.1 (search rules) c.put_pattern.ensures c.add.ensures
