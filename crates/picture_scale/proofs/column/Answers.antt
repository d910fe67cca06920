-- No parts at all, and any other number of them.
use native.Mathlib.Omega.{arith}
use borrow.Author.Tests.{eq-eqb, ne_eqb}
use Rattle.picture_scale.specs.Scale.{column_of}
use Rattle.picture_scale.proofs.column.Goals as goal

pub returns-then-m-eq0 : goal.returns-then-m-eq0
unfolding column_of
returns-then-m-eq0 c = record { answer = simp (eq-eqb _ _ c.if-m-eq0.true); most = omega arith }

pub returns : goal.returns
unfolding column_of
returns c = record { answer = simp (ne_eqb _ _ c.if-m-eq0.false) (omega (arith, c.min.ensures)); most = omega (arith, c.min.ensures) }
