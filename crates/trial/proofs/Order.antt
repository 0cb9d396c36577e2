-- The order that the degree type gives at a trial's degree: it is there, it is 2^n, and no list of levels is longer than 64.
use mathlib.Core.Bool.{false, true≢false}
use mathlib.Core.List.{[], ◌∷◌}
use mathlib.Core.Path.{◌≡◌, sym, ◌∙◌}
use Prim.Native.Nat.{ℕ, ◌^◌, ◌≤◌}
use lib.Pow.{pow_mono}
use Rattle.reply.specs.Reply.{served, refused}
use Rattle.poly.specs.Limits.{outside}
use Rattle.poly.specs.Replies.{order_reply}
use Rattle.poly.proofs.Ranges.{within, sheets_inside, count_served, count_refused}

module _ (n : ℕ) (degree : outside 2 6 n ≡ false) where
  pub order_there : {number : ℕ} → refused number ≡ order_reply n → ⊥
  order_there e = true≢false (sym (count_refused n (2 ^ n) e).0 ∙ sheets_inside n degree)

  pub order_is : {order : ℕ} → served (order ∷ []) ≡ order_reply n → order ≡ 2 ^ n
  order_is e = (count_served n (2 ^ n) e).1

  pub order_few : 2 ^ n ≤ 64
  order_few = pow_mono (within 2 6 degree).1
