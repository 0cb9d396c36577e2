-- `add` meets its contract: a block lies within the size, and begins where the pattern begins again.
use mathlib.Core.Logic.{◌⊎◌, inl, inr}
use mathlib.Core.Path.{◌≡◌, sym, ap, ◌∙◌}
use Prim.Native.Nat.{ℕ, suc, ◌+◌, ◌*◌, ◌/◌, ◌%◌, ◌≤◌, ◌<◌, min}
use native.Mathlib.Nat.{zero-add, zero-mul, suc-mul, mul-le-mul_right, lt_of_mul-lt-mul_right, div-add-mod'}
use native.Mathlib.Decide.{dec_lt}
use native.Mathlib.Omega.{arith}
use lib.Arith.{digits_mod}
use mathlib.Core.List.{List}
use lib.ListN.{length, get_or, take}
use lib.Seq.{length-take-le, get_or-take}
use Rattle.squares.specs.Doubling.{by_turns, Whole, Added}
use Rattle.squares.proofs.Runs.{none, append}
use Rattle.squares.proofs.add.Invariants.{Block}
use Rattle.squares.proofs.add.Goals as goal

-- how the size is cut into blocks
abbrev Cut : ℕ → ℕ → ℕ → Type 0
Cut block size count = ((count ≡ size) × (size < block)) ⊎ ((count ≡ block) × (size % block ≡ 0))

-- blocks that begin below the size end there at most
inside : (block before : ℕ) {size : ℕ} → size % block ≡ 0 → before * block < size → before * block + block ≤ size
inside block before {size} whole l =
    let all : size ≡ size / block * block = omega (arith, div-add-mod' size block) in
    let fewer : before < size / block = lt_of_mul-lt-mul_right block (rw (← all) l) in
    omega (arith, suc-mul before block, mul-le-mul_right block fewer)

first : {block size count : ℕ} → 0 < block → Cut block size count → 0 < size → Block block size count 0
first {block} pos (inl (e, l)) h =
    record { before = 0; aligned = sym (zero-mul block); some = omega arith; few = omega arith; within = omega arith }
first {block} pos (inr (e, whole)) h = record {
  before = 0;
  aligned = sym (zero-mul block);
  some = omega arith;
  few = omega arith;
  within = omega (arith, inside block 0 whole (rw (zero-mul block) h), zero-mul block);
}

next : {block size count at : ℕ} → Cut block size count → Block block size count at → at + count < size
    → Block block size count (at + count)
next (inl (e, l)) b h = absurd (omega arith)
next {block} {at = at} (inr (e, whole)) b h =
    let aligned : at + block ≡ suc b.before * block = omega (arith, b.aligned, suc-mul b.before block) in
    rw e (record {
      before = suc b.before;
      aligned = aligned;
      some = omega (arith, b.some);
      few = omega (arith, b.few);
      within = rw aligned (inside block (suc b.before) whole (rw (← aligned) (rw e at h)));
    })

cut : {block size count : ℕ} → Whole block size → count ≡ min size block → Cut block size count
cut {block} {size} whole e = elim (dec_lt size block) [
  | yes l ↦ inl (omega arith, l)
  | no l ↦ inr (omega arith, elim whole [ inl small ↦ absurd (omega arith) | inr all ↦ all ])
]

-- the bytes of one block more
further : (pattern : List ℕ) {out out' out'' : List ℕ} {size count at : ℕ} (b : Block (length pattern) size count at)
    → Added out 0 size at (by_turns pattern) out'
    → Added out' at (size + at) (length (take count pattern)) (λ i. get_or (take count pattern) i 0) out''
    → Added out 0 size (at + count) (by_turns pattern) out''
further pattern {size = size} {count} {at} b before here =
    let whole = rw (length-take-le count pattern (omega (arith, b.few))) at here in
    append (omega (arith, b.within))
    (λ i h. let same : (at + i) % length pattern ≡ i = rw b.aligned (digits_mod b.before (omega (arith, b.few))) in
    get_or-take count pattern i 0 h ∙ ap (λ v. get_or pattern v 0) (sym same))
    before (rw zero-add whole)

pub loop-at-init : goal.loop-at-init
loop-at-init c =
    let a = c.args in
    (omega arith, first c.requires.2 (cut c.requires.4 c.min-count.ensures), none a.out.now 0 a.size (by_turns a.pattern.now))

pub loop-at-preserved : goal.loop-at-preserved
loop-at-preserved c =
    let loop = c.loop-at in
    let b = loop.invariant.1 c.loop-at-test.true in
    (b.within, next (cut c.requires.4 c.min-count.ensures) b, further c.args.pattern.now b loop.invariant.2 c.add_block.ensures)

pub returns : goal.returns
returns c =
    let all : c.loop-at.at ≡ c.args.size = omega (arith, c.loop-at.invariant.0) in
    rw all at c.loop-at.invariant.2
