-- The segment lies inside the knots because the two tests before it say so; the product is bounded by the larger of both factors.
use Rattle.std.proofs.Common.{le_of_lt, mul-le-mul, arith}
use Rattle.test_inversions.proofs.again.Goals as goal

pub overflow_mul-start : goal.overflow_mul-start
overflow_mul-start c = omega (arith, mul-le-mul (le_of_lt c.if-s-lt4096.true) c.if-step-le4.true)

pub overflow_add-end : goal.overflow_add-end
overflow_add-end c = omega (arith, mul-le-mul (le_of_lt c.if-s-lt4096.true) c.if-step-le4.true)
