-- `seek` meets its contract: the numbers of the table are those of the triples that begin alike, which are passed over at once.
use Prim.Native.Nat.{ℕ, ◌-◌, ◌<◌}
use native.Mathlib.Numerals.{add-one}
use native.Mathlib.Omega.{arith}
use mathlib.Core.Path.{◌∙◌}
use Rattle.poly.proofs.Shifts.{one_shl}
use Rattle.codes.proofs.Halves.{half_lt}
use Rattle.triples.proofs.Totals.{counts, count_at}
use Rattle.triples.proofs.Seeking.{Seeking, begins, code, found, passed}
use Rattle.triples.proofs.TripleList.seek.Goals as goal

pub loop-rest-init : goal.loop-rest-init
loop-rest-init c =
    rw (one_shl 32 (c.args.self.n - 1) (omega arith))
    (begins c.args.self.n c.args.position (omega arith) c.args.self.high c.requires)

-- the present code is one of the table's
in_table : {n position half rest : ℕ} → Seeking n position half rest → half < 64
in_table s = half_lt (code s)

pub bounds-sizes-half : goal.bounds-sizes-half
bounds-sizes-half c = in_table c.loop-rest.invariant

pub seek_second-requires : goal.seek_second-requires
unfolding counts
seek_second-requires c =
    let s = c.loop-rest.invariant in
    record {
      half_from = s.from;
      half_below = (code s).below;
      place_inside = rw (c.from-size.ensures, count_at (code s)) at c.if-rest-size.true;
    }

pub returns-then-rest-size : goal.returns-then-rest-size
unfolding counts
returns-then-rest-size c =
    let s = c.loop-rest.invariant in
    c.seek_second.ensures ∙ found s (rw (c.from-size.ensures, count_at (code s)) at c.if-rest-size.true)

pub loop-rest-smaller : goal.loop-rest-smaller
loop-rest-smaller c = omega (arith, in_table c.loop-rest.invariant)

pub loop-rest-preserved : goal.loop-rest-preserved
unfolding counts
loop-rest-preserved c =
    let s = c.loop-rest.invariant in
    rw (add-one, c.from-size.ensures, count_at (code s)) (passed s (rw (c.from-size.ensures, count_at (code s)) at c.if-rest-size.false))
