-- Without a span, and with one.
use borrow.Author.Tests.{eq-eqb, ne_eqb}
use Rattle.picture_axes.proofs.time_column.Goals as goal

pub returns-then-span-eq0 : goal.returns-then-span-eq0
returns-then-span-eq0 c = rw (eq-eqb _ _ c.if-span-eq0.true) c.column.ensures.answer

pub returns : goal.returns
returns c = rw (ne_eqb _ _ c.if-span-eq0.false) c.column-2.ensures.answer
