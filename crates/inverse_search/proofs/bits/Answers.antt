-- Leading zeros are at most 64, so the difference does not fall below 0; the rest is the definition.
use mathlib.Core.Path.{refl}
use native.Mathlib.Omega.{arith}
use lib.Count.{leading_le}
use Rattle.inverse_search.specs.Bound.{bits_of}
use Rattle.inverse_search.proofs.bits.Goals as goal

pub overflow_sub-result : goal.overflow_sub-result
overflow_sub-result c = leading_le 64 c.args.k

pub returns : goal.returns
unfolding bits_of
returns c = record { answer = refl; most = omega arith }
