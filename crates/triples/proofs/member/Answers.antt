-- `member` meets its contract: a turn takes the least member out, and the one that is sought comes one place sooner.
use Prim.Native.Nat.{ℕ, suc, ◌-◌, ◌^◌, ◌<◌}
use native.Mathlib.Nat.{lt_of_le_of_lt}
use native.Mathlib.Omega.{arith}
use mathlib.Core.List.{◌∷◌}
use mathlib.Core.Path.{◌≡◌, refl}
use borrow.Author.Rules.{rules}
use lib.Bits.{bit_and, and_le_l}
use lib.Count.{count_trailing_zeros}
use lib.ListN.{length, get_or}
use Rattle.codes.specs.Sets.{members}
use Rattle.codes.proofs.Sets.{members_first, members_some}
use Rattle.triples.proofs.member.Invariants.{Passing}
use Rattle.triples.proofs.member.Goals as goal

module _ {set rank left before : ℕ} (p : Passing set rank left before) where
  some : 0 < left
  some = members_some left before p.inside

  first : members left ≡ count_trailing_zeros 32 left ∷ members (bit_and left (left - 1))
  first = members_first left p.fits some

  next : {after : ℕ} → before ≡ suc after → Passing set rank (bit_and left (left - 1)) after
  next {after} e =
      let inside : suc after < suc (length (members (bit_and left (left - 1)))) = rw (first, e) at p.inside in
      record {
        fits = lt_of_le_of_lt (and_le_l left (left - 1)) p.fits;
        inside = omega arith;
        is = rw (first, e) at p.is;
      }

  ends : before ≡ 0 → count_trailing_zeros 32 left ≡ get_or (members set) rank 0
  ends e = rw (first, e) at p.is

begins : {set rank before : ℕ} → set < 2 ^ 32 → rank < length (members set) → before ≡ rank → Passing set rank set before
begins fits inside e = rw e record { fits = fits; inside = inside; is = refl }

pub loop-init : goal.loop-init
loop-init c = begins (search rules) c.requires (omega arith)

pub overflow_sub-left : goal.overflow_sub-left
overflow_sub-left c = some c.loop.invariant

pub loop-preserved : goal.loop-preserved
loop-preserved c = next c.loop.invariant (omega (arith, c.loop-test.true))

pub returns : goal.returns
returns c = ends c.loop.invariant (omega (arith, c.loop-test.false))
