-- `sheet3` meets its contract: `check_three` gives the causes of the degree and of three codes, and `lay` the rest.
use mathlib.Core.Logic.{inr}
use mathlib.Core.List.{[], ◌∷◌}
use mathlib.Core.Path.{refl}
use Rattle.std.proofs.lemmas.Result.{err_from_is_err_and}
use Rattle.squares.proofs.Calls.{bad, fillable, laid}
use Rattle.squares.proofs.sheet3.Goals as goal

pub returns-in_err-check_three : goal.returns-in_err-check_three
returns-in_err-check_three c =
    let a = c.args in
    let (told, kept) = bad a.n (a.f ∷ a.g ∷ a.h ∷ []) a.out.now c.in_err-check_three.ensures in
    let p = err_from_is_err_and c.from_residual.result c.from_residual.ensures.1 in
    record { result_value = rw (p.1, p.2) told; out_after = kept }

pub lay-requires : goal.lay-requires
lay-requires c =
    let a = c.args in
    fillable a.n (a.f ∷ a.g ∷ a.h ∷ []) a.out.now c.in_ok-check_three.ensures (inr refl)

pub returns : goal.returns
returns c =
    let a = c.args in
    let (told, left) =
    laid a.n (a.f ∷ a.g ∷ a.h ∷ []) a.out.now c.in_ok-check_three.ensures (c.lay.ensures.result_value, c.lay.ensures.out_after) in
    record { result_value = told; out_after = left }
