-- One division, and the sign only where something is left of the number.
use lib.Dec.{le→leb}
use Prim.Native.Nat.{◌^◌}
use lib.Ieee.{in_float, of_bits}
use mathlib.Core.Path.{sym, ap, ◌∙◌}
use mathlib.Core.Bool.{Bool}
use native.Mathlib.Omega.{arith}
use Rattle.sheet_depth.specs.Depth.{depth_of}
use Rattle.sheet_depth.proofs.Decimal.{zero_depth, plus_depth, minus_depth}
use Rattle.sheet_depth.proofs.depth.Goals as goal

pub returns-then-n-eq0 : goal.returns-then-n-eq0
unfolding of_bits
returns-then-n-eq0 c = zero_depth c.args.minus c.args.n c.if-n-eq0.true

pub int_to_float-result : goal.int_to_float-result
unfolding in_float
int_to_float-result c = le→leb c.args.n (2 ^ 53) (omega arith)

pub returns-then-minus : goal.returns-then-minus
unfolding of_bits
returns-then-minus c = minus_depth c.args.n c.requires c.if-n-eq0.false
    ∙ ap (λ (b : Bool). depth_of b c.args.n) (sym c.if-minus.true)

pub int_to_float-result-2 : goal.int_to_float-result-2
unfolding in_float
int_to_float-result-2 c = le→leb c.args.n (2 ^ 53) (omega arith)

pub returns : goal.returns
unfolding of_bits
returns c = plus_depth c.args.n c.requires c.if-n-eq0.false
    ∙ ap (λ (b : Bool). depth_of b c.args.n) (sym c.if-minus.false)
