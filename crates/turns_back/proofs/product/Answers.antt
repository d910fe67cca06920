-- The halves are small, so that nothing wraps; their products are put together again (`wide`). Assumes nothing.
use native.Mathlib.Omega.{arith}
use Rattle.turns_back.proofs.Halves.{halves, wide}
use Rattle.turns_back.proofs.product.Goals as goal

pub overflow_mul-low : goal.overflow_mul-low
overflow_mul-low c = let h = halves c.args.x c.args.y c.requires.x c.requires.y in omega (arith, h)

pub overflow_mul-mid : goal.overflow_mul-mid
overflow_mul-mid c = let h = halves c.args.x c.args.y c.requires.x c.requires.y in omega (arith, h)

pub overflow_mul-mid-2 : goal.overflow_mul-mid-2
overflow_mul-mid-2 c = let h = halves c.args.x c.args.y c.requires.x c.requires.y in omega (arith, h)

pub overflow_add-mid : goal.overflow_add-mid
overflow_add-mid c = let h = halves c.args.x c.args.y c.requires.x c.requires.y in omega (arith, h)

pub overflow_add-mid-2 : goal.overflow_add-mid-2
overflow_add-mid-2 c = let h = halves c.args.x c.args.y c.requires.x c.requires.y in omega (arith, h)

pub overflow_mul-top : goal.overflow_mul-top
overflow_mul-top c = let h = halves c.args.x c.args.y c.requires.x c.requires.y in omega (arith, h)

pub overflow_add-top : goal.overflow_add-top
overflow_add-top c = let h = halves c.args.x c.args.y c.requires.x c.requires.y in omega (arith, h)

pub returns : goal.returns
returns c = wide c.args.x c.args.y
