-- Only NaN differs from itself; its pattern is the quiet one. Any other double has its own bits.
use mathlib.Core.Path.{sym, ap, subst}
use lib.Dec.{T}
use lib.Ieee.{to_bits, binary64}
use lib.Ieee.Compare.{differs_from_itself}
use Rattle.text.proofs.Nan.{is_itself}
use Rattle.text.proofs.to_bits.Goals as goal

pub returns-then-x : goal.returns-then-x
unfolding to_bits
returns-then-x c = sym (ap (to_bits binary64) (differs_from_itself c.args.x (subst T (sym c.if-x.true) tt)))

pub float_to_bits-result : goal.float_to_bits-result
float_to_bits-result c = is_itself c.args.x c.if-x.false
