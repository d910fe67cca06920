-- An exponent of all ones is an infinity where the digits are 0, and NaN otherwise; any other pattern is a double's own.
use mathlib.Core.Path.{refl, sym}
use lib.Ieee.{div, of_bits}
use Rattle.text.specs.Text.{double_of}
use Rattle.text.proofs.Nan.{digits_zero, field_other, nan_pattern}
use Rattle.text.proofs.of_bits.Goals as goal

pub float_from_bits-result : goal.float_from_bits-result
float_from_bits-result c = digits_zero c.args.n c.if-n-eq0.true

pub returns-then-n-eq0 : goal.returns-then-n-eq0
unfolding double_of
returns-then-n-eq0 c = refl

pub returns-then-n-eq2047 : goal.returns-then-n-eq2047
unfolding double_of div of_bits
returns-then-n-eq2047 c = sym (nan_pattern _ c.if-n-eq2047.true c.if-n-eq0.false)

pub float_from_bits-result-2 : goal.float_from_bits-result-2
float_from_bits-result-2 c = field_other c.args.n c.if-n-eq2047.false

pub returns : goal.returns
unfolding double_of
returns c = refl
