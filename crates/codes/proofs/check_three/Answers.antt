-- `check_three` meets its contract: the causes fall into four groups, one for each call, and a group counts only where those before it
-- have passed.
use mathlib.Core.Bool.{false}
use mathlib.Core.List.{List, [], ◌∷◌, ◌++◌}
use mathlib.Core.Path.{◌≡◌, sym, ap, ◌∙◌}
use Rattle.std.proofs.lemmas.Result.{err_from_is_err_and}
use Prim.Native.Nat.{ℕ, ◌<◌}
use native.Mathlib.Omega.{arith}
use lib.ListN.{get_or}
use Rattle.reply.specs.Reply.{Cause, served, refused, unless}
use Rattle.reply.proofs.Order.{passed, failed, none_applies}
use Rattle.poly.specs.Limits.{outside}
use Rattle.poly.specs.Causes.{code_causes, own_causes, common_factors}
use Rattle.poly.specs.Replies.{check_reply, check_pair_reply}
use Rattle.poly.proofs.Ranges.{within}
use Rattle.poly.proofs.Several.{code_passed}
use Rattle.codes.specs.Inner.{InTable, coprime_reply}
use Rattle.codes.specs.Replies.{check_three_reply}
use Rattle.codes.proofs.check_three.Goals as goal

module _ (n f g h : ℕ) (inside : outside 2 6 n ≡ false) where
  pair_failed : {k : ℕ} → refused k ≡ check_pair_reply n f g → refused k ≡ check_three_reply n f g h
  unfolding code_causes
  pair_failed e =
      rw inside (failed (code_causes n h ++ common_factors (f ∷ g ∷ h ∷ [])) (served []) (code_causes n f ++ code_causes n g) e)

  module _ (pair : served [] ≡ check_pair_reply n f g) where
    -- with any causes behind those of the codes
    past_pair : (more : List Cause)
        → unless (own_causes n (f ∷ g ∷ h ∷ []) ++ more) (served []) ≡ unless (code_causes n h ++ more) (served [])
    unfolding code_causes
    past_pair more = passed (code_causes n h ++ more) (served []) (code_causes n f ++ code_causes n g) pair

    third_failed : {k : ℕ} → refused k ≡ check_reply n h → refused k ≡ check_three_reply n f g h
    third_failed e =
        let more : List Cause = common_factors (f ∷ g ∷ h ∷ []) in
        rw inside (failed more (served []) (code_causes n h) e ∙ sym (past_pair more))

    module _ (third : served [] ≡ check_reply n h) where
      past_codes : (more : List Cause) → unless (own_causes n (f ∷ g ∷ h ∷ []) ++ more) (served []) ≡ unless more (served [])
      past_codes more = past_pair more ∙ passed more (served []) (code_causes n h) third

      -- all have passed: the common factors decide
      decides : check_three_reply n f g h ≡ unless (common_factors (f ∷ g ∷ h ∷ [])) (served [])
      decides = rw inside (past_codes (common_factors (f ∷ g ∷ h ∷ [])))

      in_table : (k : ℕ) → k < 3 → InTable n (get_or (f ∷ g ∷ h ∷ []) k 0)
      unfolding code_causes
      in_table k l =
          let codes : List ℕ = f ∷ g ∷ h ∷ [] in
          let (degree, odd) = code_passed n codes (none_applies (own_causes n codes) [] [] (past_codes [])) k l in
          let (low, high) = within 2 6 inside in
          record { low = omega arith; high = high; degree_is = degree; constant = odd }

pub returns-in_err-check_pair : goal.returns-in_err-check_pair
returns-in_err-check_pair c =
    let a = c.args in
    let p = err_from_is_err_and c.from_residual.result c.from_residual.ensures.1 in
    rw (p.1, p.2) (pair_failed a.n a.f a.g a.h (sym c.outside_sheets.ensures ∙ c.if-outside_sheets.false) c.in_err-check_pair.ensures)

pub returns-in_err-check : goal.returns-in_err-check
returns-in_err-check c =
    let a = c.args in
    let inside = sym c.outside_sheets.ensures ∙ c.if-outside_sheets.false in
    let p = err_from_is_err_and c.from_residual-in_err-check.result c.from_residual-in_err-check.ensures.1 in
    rw (p.1, p.2) (third_failed a.n a.f a.g a.h inside c.in_ok-check_pair.ensures c.in_err-check.ensures)

pub pairwise_coprime-requires : goal.pairwise_coprime-requires
pairwise_coprime-requires c =
    let a = c.args in
    let inside = sym c.outside_sheets.ensures ∙ c.if-outside_sheets.false in
    let stands = in_table a.n a.f a.g a.h inside c.in_ok-check_pair.ensures c.in_ok-check.ensures in
    (stands 0 (omega arith), stands 1 (omega arith), stands 2 (omega arith))

pub returns-then-not-pairwise_coprime : goal.returns-then-not-pairwise_coprime
returns-then-not-pairwise_coprime c =
    let a = c.args in
    let inside = sym c.outside_sheets.ensures ∙ c.if-outside_sheets.false in
    let told = decides a.n a.f a.g a.h inside c.in_ok-check_pair.ensures c.in_ok-check.ensures in
    sym (told ∙ sym c.pairwise_coprime.ensures ∙ ap coprime_reply c.if-not-pairwise_coprime.true)

pub returns : goal.returns
returns c =
    let a = c.args in
    let inside = sym c.outside_sheets.ensures ∙ c.if-outside_sheets.false in
    let told = decides a.n a.f a.g a.h inside c.in_ok-check_pair.ensures c.in_ok-check.ensures in
    sym (told ∙ sym c.pairwise_coprime.ensures ∙ ap coprime_reply c.if-not-pairwise_coprime.false)
