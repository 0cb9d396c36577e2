-- `product` meets its contract: the factors may change places.
use mathlib.Core.Path.{◌∙◌}
use native.Mathlib.Nat.{le_refl}
use Rattle.poly.proofs.Ring.{mul_comm}
use Rattle.poly.proofs.arithmetic.product.Goals as goal

pub returns-else-a-b : goal.returns-else-a-b
returns-else-a-b c = c.times-else-a-b.ensures ∙ mul_comm 2 (le_refl 2) c.args.b c.args.a
