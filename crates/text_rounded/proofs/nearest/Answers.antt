-- By the remainder of the high part against half a unit; the low part breaks the tie.
use native.Mathlib.Omega.{arith}
use Prim.Native.Nat.{◌*◌}
use native.Mathlib.Nat.{div-le_self}
use Rattle.text_rounded.proofs.Closest.{at_below, at_above, at_more, at_half}
use Rattle.text_rounded.proofs.nearest.Goals as goal

pub returns-then-r-half : goal.returns-then-r-half
returns-then-r-half c = at_below c.args.high c.args.low c.args.half (omega arith) (omega arith) (omega arith)

pub overflow_add-result : goal.overflow_add-result
overflow_add-result c = omega (arith, div-le_self c.args.high (c.args.half * 2))

pub returns-then-half-r : goal.returns-then-half-r
returns-then-half-r c = at_above c.args.high c.args.low c.args.half (omega arith) (omega arith) (omega arith)

pub overflow_add-result-then-low-gt0 : goal.overflow_add-result-then-low-gt0
overflow_add-result-then-low-gt0 c = omega (arith, div-le_self c.args.high (c.args.half * 2))

pub returns-then-low-gt0 : goal.returns-then-low-gt0
returns-then-low-gt0 c = at_more c.args.high c.args.low c.args.half (omega arith) (omega arith) (omega arith) (omega arith)

pub overflow_add-result-2 : goal.overflow_add-result-2
overflow_add-result-2 c = omega (arith, div-le_self c.args.high (c.args.half * 2))

pub returns : goal.returns
returns c = at_half c.args.high c.args.low c.args.half (omega arith) (omega arith) (omega arith) (omega arith)
