-- A value, or a refusal.
use native.Mathlib.Omega.{arith}
use mathlib.Core.Path.{refl}
use Rattle.picture_scale.specs.Scale.{curve_height}
use Rattle.picture_scale.proofs.curve_height.Goals as goal

pub returns-in-Ok : goal.returns-in-Ok
unfolding curve_height
returns-in-Ok c = record {
  answer = rw (← c.double_of.ensures, ← c.double_of-2.ensures, ← c.spline-e.ensures, c.in-Ok.is)
      c.height.ensures.answer;
  between = c.height.ensures.between;
}

pub returns-in-Err : goal.returns-in-Err
unfolding curve_height
returns-in-Err c = record {
  answer = rw (← c.double_of.ensures, ← c.double_of-2.ensures, ← c.spline-e.ensures, c.in-Err.is)
      refl;
  between = (omega arith, omega arith);
}
