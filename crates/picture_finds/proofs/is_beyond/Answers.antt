-- The two heights, and where they differ the ground.
use native.Mathlib.Omega.{arith}
use mathlib.Core.Path.{refl}
use borrow.Author.Tests.{eq-eqb, ne_eqb}
use Rattle.picture_finds.specs.Finds.{is_beyond}
use Rattle.picture_finds.proofs.is_beyond.Goals as goal

pub curve_height-h-requires : goal.curve_height-h-requires
curve_height-h-requires c = record { parts = omega arith; part = omega (arith, c.second-i.ensures.most) }

pub returns-then-h-asked : goal.returns-then-h-asked
unfolding is_beyond
returns-then-h-asked c = rw (
  ← c.second-i.ensures.answer,
  ← c.curve_height-h.ensures.answer,
  ← c.height-asked.ensures.answer,
  eq-eqb _ _ c.if-h-asked.true,
) refl

pub returns : goal.returns
unfolding is_beyond
returns c = rw (
  ← c.second-i.ensures.answer,
  ← c.curve_height-h.ensures.answer,
  ← c.height-asked.ensures.answer,
  ne_eqb _ _ c.if-h-asked.false,
) c.is_end.ensures
