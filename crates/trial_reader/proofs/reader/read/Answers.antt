-- `read` meets its contract: the survey decides, and where it accepts, what is copied is the parsed lists.
use mathlib.Core.Path.{◌≡◌, sym, ◌∙◌}
use Rattle.std.proofs.lemmas.Result.{err_from_is_err_and}
use mathlib.Core.List.{List, [], ◌∷◌}
use Prim.Native.Nat.{ℕ, ◌≤◌}
use lib.ListN.{length}
use Rattle.trial.specs.Trial.{parse}
use Rattle.trial.proofs.Codec.{parses}
use Rattle.trial_reader.specs.Answers.{read_into}
use Rattle.trial_reader.proofs.Reading.{short_first, short_second, short_third, refused_done, accepted_done}
use Rattle.trial_reader.proofs.reader.read.Goals as goal
use Rattle.trial_reader.proofs.reader.read.Goals.{then-powers-lt64-via-then-powers-lt64}
use Rattle.trial_reader.proofs.reader.read.Goals.{then-powers-lt64-via-else-powers-lt64+then-forces-lt64}
use Rattle.trial_reader.proofs.reader.read.Goals.{then-powers-lt64-via-else-powers-lt64+else-forces-lt64+then-times-lt64}

-- A slice is too short.
pub returns-then-powers-lt64 : goal.returns-then-powers-lt64
returns-then-powers-lt64 c =
    let a = c.args in
    let p = length a.powers.now in
    let q = length a.forces.now in
    let r = length a.times.now in
    elim c.then-powers-lt64.branch [
      | then-powers-lt64-via-then-powers-lt64 w ↦ refused_done (short_first a.file.now p 0 _ w.if-powers-lt64.true)
      | then-powers-lt64-via-else-powers-lt64+then-forces-lt64 w ↦
          refused_done (short_second a.file.now p q _ w.if-powers-lt64.false w.if-forces-lt64.true)
      | then-powers-lt64-via-else-powers-lt64+else-forces-lt64+then-times-lt64 w ↦
          refused_done (short_third a.file.now p q r w.if-powers-lt64.false w.if-forces-lt64.false w.if-times-lt64.true)
    ]

-- The slices have room, so the file decides.
room : (file powers forces times : List ℕ) → 64 ≤ length powers → 64 ≤ length forces → 64 ≤ length times
    → read_into file powers forces times ≡ parse file
room file powers forces times p q r =
    parses (length powers ∷ length forces ∷ length times ∷ []) file (p, (q, (r, tt)))

pub returns-in_err-layout : goal.returns-in_err-layout
returns-in_err-layout c =
    let a = c.args in
    let p = err_from_is_err_and c.from_residual.result c.from_residual.ensures.1 in
    let long = room a.file.now a.powers.now a.forces.now a.times.now c.if-powers-lt64.false c.if-forces-lt64.false c.if-times-lt64.false in
    rw (p.1, p.2) (refused_done (long ∙ sym c.in_err-layout.ensures.says))

pub returns : goal.returns
returns c =
    let a = c.args in
    let said = c.in_ok-layout.ensures in
    let times = rw c.times_count.ensures at c.copy_levels-3.ensures in
    let long = room a.file.now a.powers.now a.forces.now a.times.now c.if-powers-lt64.false c.if-forces-lt64.false c.if-times-lt64.false in
    rw c.content_of.ensures
    (accepted_done c.in_ok-layout.layout _ _ _ (long ∙ sym said.says) said.inside c.copy_levels.ensures c.copy_levels-2.ensures times)
