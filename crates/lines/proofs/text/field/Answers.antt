-- The digits are put, and behind them the byte that ends them.
use mathlib.Core.Path.{◌≡◌, ap, ◌∙◌}
use mathlib.Core.List.{[], ◌∷◌, ◌++◌}
use Prim.Native.Nat.{◌+◌, ◌≤◌, ◌<◌}
use native.Mathlib.Omega.{arith}
use lib.ListN.{length, length-append}
use Rattle.lines.specs.Text.{decimal}
use Rattle.lines.proofs.Decimals.{decimal_std, decimal_short}
use Rattle.lines.proofs.Putting.{length_put, store, puts_more}
use Rattle.lines.proofs.text.field.Goals as goal

pub returns-clause-placed : goal.returns-clause-placed
returns-clause-placed c =
    let a = c.args in
    let digits : c.as_bytes.result.now ≡ decimal a.n = c.as_bytes.ensures.value ∙ c.format.ensures.text ∙ decimal_std a.n (omega arith) in
    let short : length (decimal a.n) ≤ 20 = decimal_short a.n (omega arith) in
    let room : a.at + length (decimal a.n ++ a.end ∷ []) ≤ length a.out.now = omega (arith, length-append (decimal a.n) (a.end ∷ [])) in
    let placed = rw digits at c.copy-next.ensures in
    let inside : c.copy-next.result < length c.copy-next.new.out =
    omega (arith, placed.next, ap length placed.after, length_put a.out.now a.at (decimal a.n) (omega arith)) in
    puts_more room placed (store c.copy-next.new.out c.copy-next.result a.end inside)
