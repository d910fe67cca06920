-- Each way out is the first row that applies: NaN, a bad precision, no rounds; or none of them.
use mathlib.Core.Path.{sym, ◌∙◌}
use borrow.Author.Tests.{eq-eqb, ne_eqb}
use Rattle.doubles.proofs.Order.{ne_itself}
use Rattle.checks.proofs.asked.Goals as goal

pub returns-then-y : goal.returns-then-y
returns-then-y c = simp (sym (ne_itself c.args.y) ∙ c.if-y.true)

pub returns-then-not-is_precise : goal.returns-then-not-is_precise
returns-then-not-is_precise c = let number = sym (ne_itself c.args.y) ∙ c.if-y.false in
    simp (number, sym c.is_precise.ensures ∙ c.if-not-is_precise.true)

pub returns-then-limit-eq0 : goal.returns-then-limit-eq0
returns-then-limit-eq0 c = let number = sym (ne_itself c.args.y) ∙ c.if-y.false in
    simp (number, sym c.is_precise.ensures ∙ c.if-not-is_precise.false, eq-eqb _ _ c.if-limit-eq0.true)

pub returns : goal.returns
returns c = let number = sym (ne_itself c.args.y) ∙ c.if-y.false in
    simp (number, sym c.is_precise.ensures ∙ c.if-not-is_precise.false, ne_eqb _ _ c.if-limit-eq0.false)
