-- `load` meets its contract: each part that is read is the one that the parser takes there.
use native.Mathlib.Omega.{arith}
use Rattle.std.proofs.lemmas.Result.{err_from_is_err_and}
use Rattle.reply.specs.declared.Refusal.TheVariants.{SavedKind}
use Rattle.poly.proofs.Ranges.{inside, outside_below, outside_above}
use Rattle.saved.specs.Saved.{load}
use Rattle.saved.proofs.Ending.{refused_load, same_load}
use Rattle.saved.proofs.Places.{wrong_kind, no_degree, no_position, first_kind, no_marks, no_counts, second_kind}
use Rattle.saved.proofs.reading.load.Goals as goal
use Rattle.saved.proofs.reading.load.Goals.{then-kind-lt-FIRST_KIND-via-then-kind-lt-FIRST_KIND, then-kind-lt-FIRST_KIND-via-else-kind-lt-FIRST_KIND+then-kind-gt-LAST_KIND}

pub returns-in_err-kind : goal.returns-in_err-kind
unfolding load
returns-in_err-kind c =
    let p = err_from_is_err_and c.from_residual.result c.from_residual.ensures.1 in
    rw (p.1, p.2) (refused_load load c.args.file.now _ (rw (← c.in_err-kind.ensures.says)))

pub returns-then-kind-lt-FIRST_KIND : goal.returns-then-kind-lt-FIRST_KIND
returns-then-kind-lt-FIRST_KIND c =
    let wrong = wrong_kind c.args.file.now _ _ c.in_ok-kind.ensures.says in
    refused_load load c.args.file.now SavedKind
    (elim c.then-kind-lt-FIRST_KIND.branch [
      | then-kind-lt-FIRST_KIND-via-then-kind-lt-FIRST_KIND w ↦ wrong (outside_below 1 2 w.if-kind-lt-FIRST_KIND.true)
      | then-kind-lt-FIRST_KIND-via-else-kind-lt-FIRST_KIND+then-kind-gt-LAST_KIND w ↦ wrong (outside_above 1 2 w.if-kind-gt-LAST_KIND.true)
    ])

pub returns-in_err-degree : goal.returns-in_err-degree
returns-in_err-degree c =
    let p = err_from_is_err_and c.from_residual-in_err-degree.result c.from_residual-in_err-degree.ensures.1 in
    let kind = inside 1 2 c.if-kind-lt-FIRST_KIND.false c.if-kind-gt-LAST_KIND.false in
    rw (p.1, p.2)
    (refused_load load c.args.file.now _ (no_degree c.args.file.now _ _ c.in_ok-kind.ensures.says kind c.in_err-degree.ensures.says))

pub returns-in_err-position : goal.returns-in_err-position
returns-in_err-position c =
    let p = err_from_is_err_and c.from_residual-in_err-position.result c.from_residual-in_err-position.ensures.1 in
    let kind = inside 1 2 c.if-kind-lt-FIRST_KIND.false c.if-kind-gt-LAST_KIND.false in
    rw (p.1, p.2)
    (refused_load load c.args.file.now _
    (no_position c.args.file.now _ _ c.in_ok-kind.ensures.says kind _ _ c.in_ok-degree.ensures.says c.in_err-position.ensures.says))

pub returns-then-kind-eq-FIRST_KIND : goal.returns-then-kind-eq-FIRST_KIND
returns-then-kind-eq-FIRST_KIND c =
    let kind = inside 1 2 c.if-kind-lt-FIRST_KIND.false c.if-kind-gt-LAST_KIND.false in
    same_load load c.args.file.now _ _
    (first_kind c.args.file.now _ _ c.in_ok-kind.ensures.says kind _ _ c.in_ok-degree.ensures.says _ _ c.in_ok-position.ensures.says
    c.if-kind-eq-FIRST_KIND.true) c.ended.ensures

pub returns-in_err-marks : goal.returns-in_err-marks
returns-in_err-marks c =
    let p = err_from_is_err_and c.from_residual-in_err-marks.result c.from_residual-in_err-marks.ensures.1 in
    let kind = inside 1 2 c.if-kind-lt-FIRST_KIND.false c.if-kind-gt-LAST_KIND.false in
    rw (p.1, p.2)
    (refused_load load c.args.file.now _
    (no_marks c.args.file.now _ _ c.in_ok-kind.ensures.says kind _ _ c.in_ok-degree.ensures.says _ _ c.in_ok-position.ensures.says
    (omega arith) c.in_err-marks.ensures.says))

pub returns-in_err-counts : goal.returns-in_err-counts
returns-in_err-counts c =
    let p = err_from_is_err_and c.from_residual-in_err-counts.result c.from_residual-in_err-counts.ensures.1 in
    let kind = inside 1 2 c.if-kind-lt-FIRST_KIND.false c.if-kind-gt-LAST_KIND.false in
    rw (p.1, p.2)
    (refused_load load c.args.file.now _
    (no_counts c.args.file.now _ _ c.in_ok-kind.ensures.says kind _ _ c.in_ok-degree.ensures.says _ _ c.in_ok-position.ensures.says
    (omega arith) _ _ c.in_ok-marks.ensures.says c.in_err-counts.ensures.says))

pub returns : goal.returns
returns c =
    let kind = inside 1 2 c.if-kind-lt-FIRST_KIND.false c.if-kind-gt-LAST_KIND.false in
    same_load load c.args.file.now _ _
    (second_kind c.args.file.now _ _ c.in_ok-kind.ensures.says kind _ _ c.in_ok-degree.ensures.says _ _ c.in_ok-position.ensures.says
    (omega arith) _ _ c.in_ok-marks.ensures.says _ _ c.in_ok-counts.ensures.says) c.ended-2.ensures
