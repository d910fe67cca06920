-- Without a span, and with one.
use native.Mathlib.Omega.{arith}
use borrow.Author.Tests.{eq-eqb, ne_eqb}
use Rattle.picture_axes.proofs.stretch.Goals as goal

pub returns-then-span-eq0 : goal.returns-then-span-eq0
returns-then-span-eq0 c = record { answer = simp (eq-eqb _ _ c.if-span-eq0.true); most = omega arith }

pub returns : goal.returns
returns c = record { answer = simp (ne_eqb _ _ c.if-span-eq0.false); most = omega arith }
