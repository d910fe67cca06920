-- A negative depth lies below the level of 0, any other at it or above it.
use native.Mathlib.Omega.{arith}
use Rattle.picture_scale.proofs.Heights.{height_below, height_above}
use Rattle.picture_scale.proofs.height.Goals as goal

pub overflow_sub-result : goal.overflow_sub-result
overflow_sub-result c = omega (arith, c.min-u.ensures)

pub returns-then-n-ge9223372036854775808 : goal.returns-then-n-ge9223372036854775808
returns-then-n-ge9223372036854775808 c = record {
  answer = height_below _ _ _ _ _ c.to_bits-n.ensures c.min-a.ensures
      c.units.ensures.answer (omega (arith, c.min-u.ensures)) (omega arith);
  between = (omega (arith, c.min-u.ensures), omega (arith, c.min-u.ensures));
}

pub overflow_add-result : goal.overflow_add-result
overflow_add-result c = omega (arith, c.min-u.ensures)

pub returns : goal.returns
returns c = record {
  answer = height_above _ _ _ _ _ c.to_bits-n.ensures c.min-a.ensures
      c.units.ensures.answer (omega (arith, c.min-u.ensures)) (omega arith);
  between = (omega (arith, c.min-u.ensures), omega (arith, c.min-u.ensures));
}
