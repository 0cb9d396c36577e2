-- What an input asks for is a degree from 1 to 10: both forms of a numeral are tried for that.
use mathlib.Core.Bool.{Bool, false, not, ◌&&◌}
use mathlib.Core.Path.{◌≡◌, sym, ◌∙◌}
use mathlib.Core.List.{List, [], ◌∷◌}
use Prim.Native.Nat.{ℕ}
use native.Mathlib.Omega.{arith}
use lib.Dec.{eqb}
use Rattle.reply.specs.Reply.{served, Cause, ◌gives◌}
use Rattle.reply.proofs.Order.{none_applies, none_refuses}
use Rattle.poly.specs.Limits.{outside}
use Rattle.lines.specs.Input.{newline, is_digit, numeral, numeral_reply, input_reply}

-- Only a degree from 1 to 10 is asked for.
asked : (tens ones end : ℕ) {n : ℕ} → numeral_reply tens ones end ≡ served (n ∷ []) → outside 1 10 n ≡ false
unfolding numeral_reply
asked tens ones end {n} e =
    let text : Bool = is_digit tens && is_digit ones && eqb end newline in
    let causes : List Cause = not text gives 1 ∷ outside 1 10 (numeral tens ones) gives 1 ∷ [] in
    let passed = none_applies causes (numeral tens ones ∷ []) (n ∷ []) e in
    let same : served (numeral tens ones ∷ []) ≡ served (n ∷ []) = sym (none_refuses causes (served (numeral tens ones ∷ [])) passed) ∙ e in
    let is : numeral tens ones ≡ n = cc in
    rw is at passed.1.0

pub input_asks : (s : List ℕ) {n : ℕ} → input_reply s ≡ served (n ∷ []) → outside 1 10 n ≡ false
input_asks (ones ∷ end ∷ []) e = asked 48 ones end e
input_asks (tens ∷ ones ∷ end ∷ []) e = asked tens ones end e
input_asks [] e = absurd (let z : ◌≡◌ {A = ℕ} 0 1 = cc in omega arith)
input_asks (a ∷ []) e = absurd (let z : ◌≡◌ {A = ℕ} 0 1 = cc in omega arith)
input_asks (a ∷ b ∷ c ∷ d ∷ rest) e = absurd (let z : ◌≡◌ {A = ℕ} 0 1 = cc in omega arith)
