-- One of the two differences is 0, and the other the magnitude; then whether it is whole.
use mathlib.Core.Path.{refl}
use borrow.Author.Tests.{eq-eqb, ne_eqb}
use Rattle.picture_scale.specs.Words.{is_long}
use Rattle.picture_scale.proofs.words.is_long.Goals as goal

pub returns-then-u-eq0 : goal.returns-then-u-eq0
unfolding is_long
returns-then-u-eq0 c = rw (← c.abs_diff-u.ensures, eq-eqb _ _ c.if-u-eq0.true) refl

pub returns : goal.returns
unfolding is_long
returns c = rw (← c.abs_diff-u.ensures, ne_eqb _ _ c.if-u-eq0.false) refl
