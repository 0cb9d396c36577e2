-- `drawn` meets its contract: after the tests, the position decides between the pair that the record holds and the end, and the bonder's
-- count between a refusal and the pair.
use mathlib.Core.Path.{ap, ◌∙◌}
use native.Mathlib.Omega.{arith}
use Rattle.walk.specs.Walks.{next_reply}
use Rattle.walk.proofs.Looks.{good as good_record, next_fits}
use Rattle.walk.proofs.Draws.{end_reply, full_reply, pair_reply_lem, draw_refused, moves, stays_spent, stays_refused}
use Rattle.walk.proofs.Walk.drawn.Goals as goal

pub returns-in-Err : goal.returns-in-Err
returns-in-Err c =
    let a = c.args in
    let (answer, walk) = c.unmoved.ensures in
    let e = draw_refused a.self a.bonder c.in-Err.ensures.refuses in
    record { reply = ap next_reply answer ∙ e; walk = walk ∙ stays_refused a.self a.bonder e }

pub returns-then-length-self : goal.returns-then-length-self
returns-then-length-self c =
    let a = c.args in
    let (good, one, long) = c.in-Ok.ensures.passes in
    let (answer, walk) = c.unmoved-then-length-self.ensures in
    let e = end_reply a.self a.bonder good one (omega arith) in
    record { reply = ap next_reply answer ∙ e; walk = walk ∙ stays_spent a.self a.bonder e }

pub returns-then-count-eq-FULL_COUNT : goal.returns-then-count-eq-FULL_COUNT
returns-then-count-eq-FULL_COUNT c =
    let a = c.args in
    let (good, one, long) = c.in-Ok.ensures.passes in
    let (answer, walk) = c.unmoved-then-count-eq-FULL_COUNT.ensures in
    let e = full_reply a.self a.bonder good one (omega arith) c.if-count-eq-FULL_COUNT.true in
    record { reply = ap next_reply answer ∙ e; walk = walk ∙ stays_refused a.self a.bonder e }

-- a count that is not the highest is below it
pub overflow_add-self : goal.overflow_add-self
overflow_add-self c =
    let most = (good_record c.args.self c.in-Ok.ensures.passes.0).counts c.args.bonder in
    record { fits = omega arith }

pub overflow_add-self-2 : goal.overflow_add-self-2
overflow_add-self-2 c = record { fits = next_fits c.args.self c.in-Ok.ensures.passes.0 }

pub work_out-requires : goal.work_out-requires
work_out-requires c = (good_record c.args.self c.in-Ok.ensures.passes.0).degree_high

pub returns : goal.returns
returns c =
    let walk = c.args.self in
    let (good, one, long) = c.in-Ok.ensures.passes in
    let e = pair_reply_lem walk c.args.bonder good one (omega arith) c.if-count-eq-FULL_COUNT.false in
    record {
      reply = rw (c.held-given.ensures.f, c.held-given.ensures.g) e;
      walk = c.work_out.ensures ∙ moves walk c.args.bonder e;
    }
