-- Each way out is the first row that applies: Linear as output, too little room, the row of the knots.
use borrow.Author.Tests.{lt-ltb, le-ltb}
use mathlib.Core.Path.{sym, ◌∙◌}
use Rattle.convert.proofs.refusals.output_verdict.Goals as goal

pub returns-then-is_linear : goal.returns-then-is_linear
returns-then-is_linear c = simp (sym c.is_linear.ensures ∙ c.if-is_linear.true)

pub returns-then-room-need : goal.returns-then-room-need
returns-then-room-need c = let a = c.args in
    simp (sym c.is_linear.ensures ∙ c.if-is_linear.false, lt-ltb a.room a.need c.if-room-need.true)

pub returns : goal.returns
returns c = let a = c.args in
    simp (sym c.is_linear.ensures ∙ c.if-is_linear.false, le-ltb a.room a.need c.if-room-need.false)
    c.knots.ensures
