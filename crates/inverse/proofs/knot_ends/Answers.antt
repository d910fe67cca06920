-- A case for STEP 1 and for any other; the knots read are the definition's.
use mathlib.Core.Path.{sym, ◌∙◌}
use borrow.Author.Tests.{eq-eqb, ne_eqb}
use Rattle.inverse.proofs.knot_ends.Goals as goal

pub returns-then-step-eq1 : goal.returns-then-step-eq1
returns-then-step-eq1 c = simp
    (eq-eqb _ _ (sym c.step.ensures.answer ∙ c.if-step-eq1.true), c.rising-rising.ensures)

pub returns : goal.returns
returns c = simp (ne_eqb _ _ (λ q. c.if-step-eq1.false (c.step.ensures.answer ∙ q)), c.rising-rising.ensures)
