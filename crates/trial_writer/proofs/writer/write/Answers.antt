-- `write` meets its contract: the version says whether the third code and list are of the content, or it is refused.
use mathlib.Core.List.{[], ◌∷◌}
use Rattle.std.proofs.lemmas.Result.{err_from_is_err_and}
use Rattle.trial.specs.Trial.{Trial, trial_from}
use Rattle.trial_writer.proofs.Writing.{refused_write, content_refused, no_version}
use Rattle.trial_writer.proofs.writer.write.Goals as goal

pub returns-in_err-third : goal.returns-in_err-third
returns-in_err-third c =
    let a = c.args in
    let codes = a.f ∷ a.g ∷ a.h ∷ [] in
    let lists = a.powers.now ∷ a.forces.now ∷ a.times.now ∷ [] in
    let t : Trial = trial_from a.version a.degree codes lists a.name.now in
    let (none, why) = c.in_err-third.ensures in
    let p = err_from_is_err_and c.from_residual.result c.from_residual.ensures.1 in
    rw (p.1, p.2, why)
    (refused_write t a.out.now (content_refused t a.out.now (no_version a.version a.degree codes lists a.name.now none)))
