-- `check_content` meets its contract: the head, the lists and the name are refused for their causes, one after the other.
use mathlib.Core.Path.{◌≡◌, sym, subst}
use mathlib.Core.List.{[]}
use Prim.Native.Nat.{ℕ, ◌^◌}
use Rattle.std.proofs.lemmas.Result.{err_from_is_err_and}
use Rattle.reply.specs.Reply.{Reply, served, refused, unless}
use Rattle.reply.proofs.Order.{NoneApplies, passed, failed, none_applies}
use Rattle.trial.specs.Rules.{today}
use Rattle.trial.specs.Trial.{Head, Trial, head_causes}
use Rattle.trial.specs.Replies.{list_causes, name_causes, body_causes, content_causes}
use Rattle.trial.proofs.Order.{order_there, order_is}
use Rattle.trial_writer.specs.Inner.{head_of, trial_of}
use Rattle.trial_writer.proofs.checks.check_content.Goals as goal

head_clear : (head : Head) → served [] ≡ unless (head_causes today head) (served []) → NoneApplies (head_causes today head)
head_clear head e = none_applies (head_causes today head) [] [] (sym e)

module _ (t : Trial) where
  refused_head : {number : ℕ} → refused number ≡ unless (head_causes today t.head) (served [])
      → refused number ≡ unless (content_causes t) (served [])
  unfolding content_causes
  refused_head e = failed (body_causes t) (served []) (head_causes today t.head) e

  module _ (head_passed : served [] ≡ unless (head_causes today t.head) (served [])) where
    refused_lists : {number count : ℕ} → count ≡ 2 ^ t.head.degree → refused number ≡ unless (list_causes count t.lists) (served [])
        → refused number ≡ unless (content_causes t) (served [])
    unfolding content_causes
    refused_lists {number} same e =
        rw (passed (body_causes t) (served []) (head_causes today t.head) head_passed)
        (failed (name_causes t.name) (served []) (list_causes (2 ^ t.head.degree) t.lists)
        (subst (λ order. refused number ≡ unless (list_causes order t.lists) (served [])) same e))

    name_decides : {reply : Reply} {count : ℕ} → count ≡ 2 ^ t.head.degree → served [] ≡ unless (list_causes count t.lists) (served [])
        → reply ≡ unless (name_causes t.name) (served []) → reply ≡ unless (content_causes t) (served [])
    unfolding content_causes
    name_decides same lists_passed e =
        let all_passed = subst (λ order. served [] ≡ unless (list_causes order t.lists) (served [])) same lists_passed in
        rw (
          passed (body_causes t) (served []) (head_causes today t.head) head_passed,
          passed (name_causes t.name) (served []) (list_causes (2 ^ t.head.degree) t.lists) all_passed,
        )
        e

pub returns-in_err-check_head : goal.returns-in_err-check_head
returns-in_err-check_head c =
    let p = err_from_is_err_and c.from_residual.result c.from_residual.ensures.1 in
    rw (p.1, p.2) (refused_head (trial_of c.args.content.now) c.in_err-check_head.ensures)

pub returns-in_err-order : goal.returns-in_err-order
returns-in_err-order c =
    let content = c.args.content.now in
    let clear = head_clear (head_of content) c.in_ok-check_head.ensures in
    absurd (order_there content.degree clear.1.0 c.in_err-order.ensures)

pub returns-in_err-check_lists : goal.returns-in_err-check_lists
returns-in_err-check_lists c =
    let content = c.args.content.now in
    let order = order_is content.degree (head_clear (head_of content) c.in_ok-check_head.ensures).1.0 c.in_ok-order.ensures in
    let p = err_from_is_err_and c.from_residual-in_err-check_lists.result c.from_residual-in_err-check_lists.ensures.1 in
    rw (p.1, p.2) (refused_lists (trial_of content) c.in_ok-check_head.ensures order c.in_err-check_lists.ensures)

pub returns : goal.returns
returns c =
    let content = c.args.content.now in
    let order = order_is content.degree (head_clear (head_of content) c.in_ok-check_head.ensures).1.0 c.in_ok-order.ensures in
    name_decides (trial_of content) c.in_ok-check_head.ensures order c.in_ok-check_lists.ensures c.check_name.ensures
