-- One division, and the sign only where something is left of the number.
use mathlib.Core.Path.{◌∙◌}
use lib.Dec.{le→leb}
use Prim.Native.Nat.{◌^◌}
use lib.Ieee.{in_float, of_bits}
use Rattle.ask_verdict.proofs.Doubles.{zero_knot, plus_knot, minus_knot, up_knot, down_knot, size_is}
use native.Mathlib.Omega.{arith}
use Rattle.ask_verdict.proofs.double_of.Goals as goal

pub returns-then-n-eq0 : goal.returns-then-n-eq0
unfolding of_bits
returns-then-n-eq0 c = zero_knot c.args.z c.size-n.result (size_is c.args.z c.requires c.size-n.ensures) c.if-n-eq0.true

pub int_to_float-result : goal.int_to_float-result
unfolding in_float
int_to_float-result c = le→leb c.size-n.result (2 ^ 53) (omega (arith, size_is c.args.z c.requires c.size-n.ensures, c.requires))

pub returns-then-z-ge0 : goal.returns-then-z-ge0
unfolding of_bits
returns-then-z-ge0 c = plus_knot c.size-n.result (omega (arith, size_is c.args.z c.requires c.size-n.ensures, c.requires))
    c.if-n-eq0.false ∙ up_knot c.args.z c.size-n.result (size_is c.args.z c.requires c.size-n.ensures)
    c.requires c.if-z-ge0.true

pub int_to_float-result-2 : goal.int_to_float-result-2
unfolding in_float
int_to_float-result-2 c = le→leb c.size-n.result (2 ^ 53) (omega (arith, size_is c.args.z c.requires c.size-n.ensures, c.requires))

pub returns : goal.returns
unfolding of_bits
returns c = minus_knot c.size-n.result (omega (arith, size_is c.args.z c.requires c.size-n.ensures, c.requires))
    c.if-n-eq0.false ∙ down_knot c.args.z c.size-n.result
    (size_is c.args.z c.requires c.size-n.ensures) c.requires c.if-z-ge0.false
