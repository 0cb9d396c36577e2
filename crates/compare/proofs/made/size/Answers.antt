-- `size` is safe: at an order up to 64 the products are small.
use Rattle.std.proofs.Common.{mul-le-mul, arith}
use Rattle.compare.proofs.made.size.Goals as goal

pub overflow_mul-result : goal.overflow_mul-result
overflow_mul-result c = record { fits = omega (arith, mul-le-mul c.if-order-gt64.false c.if-order-gt64.false) }

pub overflow_mul-result-2 : goal.overflow_mul-result-2
overflow_mul-result-2 c = record { fits = omega (arith, mul-le-mul c.if-order-gt64.false c.if-order-gt64.false) }
