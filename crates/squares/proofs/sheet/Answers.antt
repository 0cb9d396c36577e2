-- `sheet` meets its contract: `check_coprime` gives the causes of two codes, and `lay` the rest.
use mathlib.Core.Logic.{inl}
use mathlib.Core.List.{[], ◌∷◌}
use mathlib.Core.Bool.{false}
use mathlib.Core.Path.{◌≡◌, refl, sym, ◌∙◌}
use Rattle.std.proofs.lemmas.Result.{err_from_is_err_and}
use Prim.Native.Nat.{ℕ}
use Rattle.reply.specs.Reply.{served, unless}
use Rattle.poly.specs.Limits.{outside}
use Rattle.poly.specs.Causes.{sheet_degree_cause, code_causes, coprime_causes}
use Rattle.euclid.specs.Replies.{check_coprime_reply}
use Rattle.squares.proofs.Calls.{bad, fillable, laid}
use Rattle.squares.proofs.sheet.Goals as goal

-- the causes that `check_coprime` tries
pair : (n f g : ℕ) → check_coprime_reply n f g ≡ unless (coprime_causes n (f ∷ g ∷ [])) (served [])
unfolding code_causes
pair n f g = refl

pub returns-then-outside_sheets : goal.returns-then-outside_sheets
returns-then-outside_sheets c =
    let a = c.args in
    let (told, kept) =
    bad a.n (a.f ∷ a.g ∷ []) a.out.now {k = 12} (rw (sym c.outside_sheets.ensures ∙ c.if-outside_sheets.true)) in
    record { result_value = told; out_after = kept }

-- the causes of the degree and of two codes, where none of them applies
clear : (n f g : ℕ) → outside 2 6 n ≡ false → served [] ≡ check_coprime_reply n f g
    → served [] ≡ unless (sheet_degree_cause n ∷ coprime_causes n (f ∷ g ∷ [])) (served [])
clear n f g inside passes = rw inside (passes ∙ pair n f g)

pub returns-in_err-check_coprime : goal.returns-in_err-check_coprime
returns-in_err-check_coprime c =
    let a = c.args in
    let (told, kept) =
    bad a.n (a.f ∷ a.g ∷ []) a.out.now
    (rw (sym c.outside_sheets.ensures ∙ c.if-outside_sheets.false) (c.in_err-check_coprime.ensures ∙ pair a.n a.f a.g)) in
    let p = err_from_is_err_and c.from_residual.result c.from_residual.ensures.1 in
    record { result_value = rw (p.1, p.2) told; out_after = kept }

pub lay-requires : goal.lay-requires
lay-requires c =
    let a = c.args in
    let none = clear a.n a.f a.g (sym c.outside_sheets.ensures ∙ c.if-outside_sheets.false) c.in_ok-check_coprime.ensures in
    fillable a.n (a.f ∷ a.g ∷ []) a.out.now none (inl refl)

pub returns : goal.returns
returns c =
    let a = c.args in
    let none = clear a.n a.f a.g (sym c.outside_sheets.ensures ∙ c.if-outside_sheets.false) c.in_ok-check_coprime.ensures in
    let (told, left) = laid a.n (a.f ∷ a.g ∷ []) a.out.now none (c.lay.ensures.result_value, c.lay.ensures.out_after) in
    record { result_value = told; out_after = left }
