-- `site` meets its contract.
use mathlib.Core.Path.{◌≡◌, sym, ◌∙◌}
use Rattle.std.proofs.lemmas.Result.{err_from_is_err_and}
use mathlib.Core.Logic.{◌⊎◌, inl, inr}
use mathlib.Core.Bool.{false, or-true}
use mathlib.Core.List.{[], ◌∷◌, ◌++◌}
use Prim.Native.Nat.{ℕ, ◌+◌, ◌-◌, ◌*◌, ◌/◌, ◌^◌, ◌≤◌, ◌<◌}
use native.Mathlib.Nat
use native.Mathlib.Omega.{arith}
use borrow.Author.Tests.{le-leb, lt-leb}
use lib.Arith.{digits_lt, digits_div, digits_mod}
use lib.Dec.{leb}
use lib.Pow.{pow-add, pow_mono}
use Rattle.reply.specs.Reply.{served, refused, ◌gives◌, unless}
use Rattle.reply.proofs.Order.{passed, failed, none_applies}
use Rattle.poly.specs.Limits.{outside}
use Rattle.poly.specs.Causes.{code_causes}
use Rattle.poly.specs.Replies.{order_reply}
use Rattle.poly.proofs.Ranges.{within, Passed, passed_codes, count_served, count_refused}
use Rattle.squares.specs.Symbols.{symbol}
use Rattle.squares.specs.Symbols.{from_digits}
use Rattle.squares.specs.Lines.{parity, Moved}
use Rattle.squares.proofs.Binary.{site_parities, reverse_line}
use Rattle.squares.specs.Replies.{site_reply, off_site}
use Rattle.squares.proofs.site.Goals as goal

-- past the degree and the codes, the row and the column decide
past : (n f g row col : ℕ) → outside 1 31 n ≡ false → served [] ≡ unless (code_causes n f ++ code_causes n g) (served [])
    → site_reply n f g row col
    ≡ unless (off_site n row col gives 5 ∷ []) (served (symbol 2 n f row col ∷ symbol 2 n g row col ∷ []))
unfolding site_reply
past n f g row col degree codes =
    rw degree
    (passed (off_site n row col gives 5 ∷ []) (served (symbol 2 n f row col ∷ symbol 2 n g row col ∷ []))
    (code_causes n f ++ code_causes n g) codes)

pub returns-in_err-order : goal.returns-in_err-order
unfolding site_reply
returns-in_err-order c =
    let p = err_from_is_err_and c.from_residual.result c.from_residual.ensures.1 in
    rw (p.1, p.2, c.in_err-order.ensures, (count_refused c.args.n _ c.in_err-order.ensures).0)

pub returns-in_err-check_pair : goal.returns-in_err-check_pair
unfolding site_reply
returns-in_err-check_pair c =
    let a = c.args in
    let p = err_from_is_err_and c.from_residual-in_err-check_pair.result c.from_residual-in_err-check_pair.ensures.1 in
    rw (p.1, p.2, (count_served a.n _ c.in_ok-order.ensures).0)
    (failed (off_site a.n a.row a.col gives 5 ∷ []) _ (code_causes a.n a.f ++ code_causes a.n a.g) c.in_err-check_pair.ensures)

-- what holds once the codes have passed
module _ (n f g row col : ℕ) {order : ℕ} (ordered : served (order ∷ []) ≡ order_reply n)
    (no_cause : served [] ≡ unless (code_causes n f ++ code_causes n g) (served [])) where
  degree : outside 1 31 n ≡ false
  degree = (count_served n (2 ^ n) ordered).0

  order_is : order ≡ 2 ^ n
  order_is = (count_served n (2 ^ n) ordered).1

  range : (1 ≤ n) × (n ≤ 31)
  range = within 1 31 degree

  reply : site_reply n f g row col
      ≡ unless (off_site n row col gives 5 ∷ []) (served (symbol 2 n f row col ∷ symbol 2 n g row col ∷ []))
  reply = past n f g row col degree no_cause

  codes : Passed n f g
  unfolding code_causes
  codes = passed_codes n f g [] (none_applies (code_causes n f ++ code_causes n g) [] [] (sym no_cause))

  -- a row or a column that is off the square
  off : (order ≤ row) ⊎ (order ≤ col) → refused 5 ≡ site_reply n f g row col
  off (inl r) =
      let h : 2 ^ n ≤ row = rw order_is at r in
      sym (reply ∙ rw (le-leb (2 ^ n) row h))
  off (inr c) =
      let h : 2 ^ n ≤ col = rw order_is at c in
      sym (reply ∙ rw (le-leb (2 ^ n) col h, or-true (leb (2 ^ n) row)))

  module _ (r_in : row < order) (c_in : col < order) where
    r_lt : row < 2 ^ n
    r_lt = rw order_is at r_in

    c_lt : col < 2 ^ n
    c_lt = rw order_is at c_in

    place_lt : row * order + col < 2 ^ 62
    place_lt =
        rw order_is
        (Nat.lt_of_lt_of_le (rw (← pow-add 2 n n) at (digits_lt r_lt c_lt)) (pow_mono {i = n + n} {j = 62} (omega (arith, range))))

    -- the symbols from the line of the site's number are those at its row and column
    served_here : {first second reverse : ℕ} → Moved (λ i. 63 - i) (row * order + col) reverse
        → let line : ℕ = reverse / 2 ^ (64 - 2 * n) in
        (first ≡ from_digits 2 n (parity f line)) × (second ≡ from_digits 2 n (parity g line))
        → served (first ∷ second ∷ []) ≡ site_reply n f g row col
    served_here {first} {second} {reverse} moved (one, two) =
        let small : n < 32 = omega (arith, range) in
        let line : ℕ = reverse / 2 ^ (64 - 2 * n) in
        let place : ℕ = row * 2 ^ n + col in
        let cells = reverse_line n place small (rw order_is at moved) in
        let of_f = rw (digits_div row c_lt, digits_mod row c_lt) at (site_parities n place line small codes.degree_f.high cells) in
        let of_g = rw (digits_div row c_lt, digits_mod row c_lt) at (site_parities n place line small codes.degree_g.high cells) in
        rw (one, two, ← of_f, ← of_g) (sym (reply ∙ rw (lt-leb (2 ^ n) row r_lt, lt-leb (2 ^ n) col c_lt)))

pub returns-then-order-row : goal.returns-then-order-row
returns-then-order-row c =
    let a = c.args in
    let out : (c.in_ok-order.order ≤ a.row) ⊎ (c.in_ok-order.order ≤ a.col) = elim c.then-order-row.either [
      | inl r ↦ inl (rw c.from-row.ensures at r)
      | inr rc ↦ inr (rw c.from-col.ensures at rc.1)
    ] in
    off a.n a.f a.g a.row a.col c.in_ok-order.ensures c.in_ok-check_pair.ensures out

pub overflow_mul-place : goal.overflow_mul-place
overflow_mul-place c =
    let a = c.args in
    let small =
    place_lt a.n a.f a.g a.row a.col c.in_ok-order.ensures c.in_ok-check_pair.ensures (rw c.from-row.ensures at c.if-order-row.false)
    (rw c.from-col.ensures at c.if-order-col.false) in
    rw c.from-row.ensures (record { fits = omega (arith, small) })

pub overflow_add-place : goal.overflow_add-place
overflow_add-place c =
    let a = c.args in
    let small =
    place_lt a.n a.f a.g a.row a.col c.in_ok-order.ensures c.in_ok-check_pair.ensures (rw c.from-row.ensures at c.if-order-row.false)
    (rw c.from-col.ensures at c.if-order-col.false) in
    rw (c.from-row.ensures, c.from-col.ensures) (record { fits = omega (arith, small) })

pub overflow_mul-line : goal.overflow_mul-line
overflow_mul-line c =
    let a = c.args in
    record { fits = omega (arith, range a.n a.f a.g a.row a.col c.in_ok-order.ensures c.in_ok-check_pair.ensures) }

pub overflow_sub-line : goal.overflow_sub-line
overflow_sub-line c =
    let a = c.args in
    omega (arith, range a.n a.f a.g a.row a.col c.in_ok-order.ensures c.in_ok-check_pair.ensures)

pub overflow_shr-line : goal.overflow_shr-line
overflow_shr-line c =
    let a = c.args in
    omega (arith, range a.n a.f a.g a.row a.col c.in_ok-order.ensures c.in_ok-check_pair.ensures)

pub symbols_of-requires : goal.symbols_of-requires
symbols_of-requires c =
    let a = c.args in
    omega (arith, range a.n a.f a.g a.row a.col c.in_ok-order.ensures c.in_ok-check_pair.ensures)

pub returns : goal.returns
returns c =
    let a = c.args in
    served_here a.n a.f a.g a.row a.col c.in_ok-order.ensures c.in_ok-check_pair.ensures (rw c.from-row.ensures at c.if-order-row.false)
    (rw c.from-col.ensures at c.if-order-col.false) (rw (c.from-row.ensures, c.from-col.ensures) at c.reversed.ensures)
    c.symbols_of.ensures
