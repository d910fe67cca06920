-- A knot that is shown, and one that is not.
use mathlib.Core.Path.{refl}
use Rattle.picture_scale.proofs.with_knot.Goals as goal

pub returns-then-is_shown : goal.returns-then-is_shown
returns-then-is_shown c = record {
  answer = rw (← c.is_shown.ensures, c.if-is_shown.true) (rw c.height.ensures.answer at c.widen.ensures.answer);
  narrow_after = c.widen.ensures.narrow_after;
}

pub returns : goal.returns
returns c = record { answer = rw (← c.is_shown.ensures, c.if-is_shown.false) refl; narrow_after = c.requires.narrow }
