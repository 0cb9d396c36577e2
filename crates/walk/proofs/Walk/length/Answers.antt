-- `length` meets its contract: its tests are those of `bad_record`, one after the other.
use mathlib.Core.Bool.{Bool, true, ◌||◌}
use mathlib.Core.List.{[], ◌∷◌}
use mathlib.Core.Path.{◌≡◌, ◌∙◌}
use Prim.Native.Nat.{ℕ, ◌+◌, ◌≤◌}
use native.Mathlib.Omega.{arith}
use Rattle.reply.specs.Reply.{served, refused, unless}
use Rattle.poly.specs.Replies.{length_reply}
use Rattle.poly.proofs.Ranges.{within, length_served, length_refused, list_length_lt}
use Rattle.walk.specs.declared.Walk.{Walk}
use Rattle.walk.specs.Walks.{any_above, full_count, bad_record, record_cause}
use Rattle.walk.proofs.Looks.{bad_degree, bad_position, by_numbers}
use Rattle.walk.proofs.Walk.length.Goals as goal

refuses : (walk : Walk) → bad_record walk ≡ true → refused 3 ≡ unless (record_cause walk ∷ []) (served [])
refuses walk e = rw e

-- once degree and position are known to be good, the marks and the counts decide
by_above : (walk : Walk) {length : ℕ} {marks counts : Bool} → served (length ∷ []) ≡ length_reply walk.degree → walk.position ≤ length
    → marks ≡ any_above (length + 1) walk.marks → counts ≡ any_above full_count walk.counts → bad_record walk ≡ (marks || counts)
by_above walk {length} told below marks counts =
    let (degree, long) = length_served walk.degree told in
    rw (marks, counts, long) (by_numbers walk degree (omega arith))

pub returns-in_default : goal.returns-in_default
returns-in_default c =
    let walk = c.args.self.now in
    record { passes = tt; refuses = refuses walk (bad_degree walk (length_refused walk.degree (c.in_default.ensures))) }

pub returns-then-length-self : goal.returns-then-length-self
returns-then-length-self c =
    let walk = c.args.self.now in
    let (degree, length) = length_served walk.degree (c.in-Ok.ensures) in
    record { passes = tt; refuses = refuses walk (bad_position walk degree (omega arith)) }

pub overflow_add-length : goal.overflow_add-length
overflow_add-length c =
    let (degree, length) = length_served c.args.self.now.degree (c.in-Ok.ensures) in
    let (low, high) = within 1 31 degree in
    record { fits = omega (arith, list_length_lt _ high) }

pub returns-then-any_above : goal.returns-then-any_above
returns-then-any_above c =
    let walk = c.args.self.now in
    let e = by_above walk c.in-Ok.ensures c.if-length-self.false c.any_above.ensures c.any_above-2.ensures in
    record { passes = tt; refuses = refuses walk (e ∙ c.if-any_above.true) }

pub returns-clause-passes : goal.returns-clause-passes
returns-clause-passes c =
    let walk = c.args.self.now in
    let e = by_above walk c.in-Ok.ensures c.if-length-self.false c.any_above.ensures c.any_above-2.ensures in
    (e ∙ c.if-any_above.false, (length_served walk.degree c.in-Ok.ensures).1)
