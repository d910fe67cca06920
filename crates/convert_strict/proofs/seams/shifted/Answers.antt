-- A case for each step of the output, 1 to 4: what is left of the old window, then what is written of the new one.
use native.Mathlib.Omega.{arith}
use Rattle.convert_strict.proofs.Scan.{shift_1, shift_2, shift_3, shift_4}
use Rattle.convert_strict.proofs.seams.shifted.Goals as goal

pub returns-then-stride-eq1 : goal.returns-then-stride-eq1
returns-then-stride-eq1 c = shift_1 c.args.stride c.args.h c.args.w c.if-stride-eq1.true

pub returns-then-stride-eq2 : goal.returns-then-stride-eq2
returns-then-stride-eq2 c = shift_2 c.args.stride c.args.h c.args.w c.if-stride-eq2.true

pub returns-then-stride-eq3 : goal.returns-then-stride-eq3
returns-then-stride-eq3 c = shift_3 c.args.stride c.args.h c.args.w c.if-stride-eq3.true

pub returns : goal.returns
returns c = shift_4 c.args.stride c.args.h c.args.w
    (omega (arith, c.if-stride-eq3.false, c.if-stride-eq2.false, c.if-stride-eq1.false))
