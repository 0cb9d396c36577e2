-- `survey_body` meets its contract: the lists hand the position behind them to the name.
use mathlib.Core.Path.{◌≡◌, sym, subst}
use Prim.Native.Nat.{ℕ, suc, ◌^◌}
use mathlib.Core.List.{List}
use lib.ListN.{drop}
use Rattle.std.specs.Prelude.{Option, Ok, Err}
use Rattle.std.proofs.lemmas.Result.{err_from_is_err_and}
use Rattle.leb128.specs.Parser.{parsed, failed}
use Rattle.reply.specs.Numbers.{number_of}
use Rattle.reply.specs.declared.Refusal.{Refusal}
use Rattle.trial.specs.Rules.{today}
use Rattle.trial.specs.Trial.{parse_lists, parse_body}
use Rattle.trial_reader.specs.Inner.{version_of, lists_at, ListsRead}
use Rattle.trial_reader.proofs.reader.survey_body.Goals as goal

-- What the lists gave.
module _ (file : List ℕ) (at : ℕ) (h : Option ℕ) (n count : ℕ) (same : count ≡ 2 ^ n) {powers forces times : List ℕ} where
  given : {next : ℕ} → ListsRead file at h count (Ok next) powers forces times
      → parse_lists today (2 ^ n) (suc (version_of h)) (drop at file) ≡ parsed (lists_at h count powers forces times) (drop next file)
  given {next} read =
      let lists = lists_at h count powers forces times in
      subst (λ order. parse_lists today order (suc (version_of h)) (drop at file) ≡ parsed lists (drop next file)) same
      (sym read.says)

  not_given : {why : Refusal} → ListsRead file at h count (Err why) powers forces times
      → parse_lists today (2 ^ n) (suc (version_of h)) (drop at file) ≡ failed (number_of why)
  not_given {why} refusal =
      subst (λ order. parse_lists today order (suc (version_of h)) (drop at file) ≡ failed (number_of why)) same (sym refusal.says)

pub returns-in_err-at : goal.returns-in_err-at
unfolding parse_body
returns-in_err-at c =
    let a = c.args in
    let p = err_from_is_err_and c.from_residual.result c.from_residual.ensures.1 in
    let refused = not_given a.file.now a.at a.head.h a.head.degree a.count c.requires.0 c.in_err-at.ensures in
    rw (p.1, p.2) (record { says = rw refused; inside = tt })

pub returns-in_err-name : goal.returns-in_err-name
unfolding parse_body
returns-in_err-name c =
    let a = c.args in
    let p = err_from_is_err_and c.from_residual-in_err-name.result c.from_residual-in_err-name.ensures.1 in
    let lists = given a.file.now a.at a.head.h a.head.degree a.count c.requires.0 c.in_ok-at.ensures in
    rw (p.1, p.2) (record { says = rw (lists, ← c.in_err-name.ensures.says); inside = tt })

pub returns : goal.returns
unfolding parse_body
returns c =
    let a = c.args in
    let lists = given a.file.now a.at a.head.h a.head.degree a.count c.requires.0 c.in_ok-at.ensures in
    let name = c.in_ok-name.ensures in
    record {
      says = rw (lists, ← name.says);
      inside = record { few = c.requires.1; last = name.inside };
    }
