-- `position_of` meets its contract: what the chain call refuses is refused for the same cause, a divisor other than 1 is a common factor,
-- and otherwise the quotients' position is the pair's.
use mathlib.Core.Path.{◌≡◌}
use mathlib.Core.List.{List, [], ◌∷◌}
use Prim.Native.Nat.{ℕ}
use native.Mathlib.Omega.{arith}
use Rattle.std.proofs.lemmas.Result.{err_from_is_err_and}
use Rattle.reply.specs.Reply.{served}
use lib.ListN.{replicate}
use Rattle.euclid.specs.Replies.{chain_reply, chain_content}
use Rattle.positions.proofs.Chained.{refuses, Chained, factor, degree_small, count_pos, count_lt, listed, position}
use Rattle.positions.proofs.position_of.Goals as goal

-- where the chain call was served
known : {n f g count divisor : ℕ} {array : List ℕ} → served (count ∷ divisor ∷ []) ≡ chain_reply n f g 32
    → array ≡ chain_content n f g (replicate 32 0) → Chained n f g array count divisor
known reply content = record { reply = reply; content = content }

pub returns-in_err-written : goal.returns-in_err-written
returns-in_err-written c =
    let a = c.args in
    let p = err_from_is_err_and c.from_residual.result c.from_residual.ensures.1 in
    rw (p.1, p.2) (refuses a.n a.f a.g c.in_err-written.ensures.reply)

pub returns-then-written-ne1 : goal.returns-then-written-ne1
returns-then-written-ne1 c =
    factor (known c.in_ok-written.ensures.reply c.in_ok-written.ensures.content) (λ e. omega (arith, c.if-written-ne1.true))

pub overflow_sub-written : goal.overflow_sub-written
overflow_sub-written c =
    omega (arith, count_pos (known c.in_ok-written.ensures.reply c.in_ok-written.ensures.content))

pub sequence_position-requires : goal.sequence_position-requires
sequence_position-requires c =
    let call = known c.in_ok-written.ensures.reply c.in_ok-written.ensures.content in
    record { small = degree_small call; room = count_lt call; listed = listed call c.if-written-ne1.false }

pub returns : goal.returns
returns c =
    position (known c.in_ok-written.ensures.reply c.in_ok-written.ensures.content) c.if-written-ne1.false c.sequence_position.ensures
