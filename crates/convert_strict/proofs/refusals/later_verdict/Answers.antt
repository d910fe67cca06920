-- The rows in the table's order: the output's basis, the allowance, the room and the knots. Assumes nothing.
use mathlib.Core.Path.{sym, ◌∙◌}
use Rattle.convert_strict.proofs.Verdicts.{by_linear, by_allowance, by_output}
use Rattle.convert_strict.proofs.refusals.later_verdict.Goals as goal

pub returns-then-is_linear : goal.returns-then-is_linear
returns-then-is_linear c = let a = c.args in
    by_linear a.from a.to a.knots.now a.allowance a.room (sym c.is_linear.ensures ∙ c.if-is_linear.true)

pub returns-then-not-is_allowance : goal.returns-then-not-is_allowance
returns-then-not-is_allowance c = let a = c.args in
    by_allowance a.from a.to a.knots.now a.allowance a.room (sym c.is_linear.ensures ∙ c.if-is_linear.false)
    (sym c.is_allowance.ensures ∙ c.if-not-is_allowance.true)

pub output_length-need-requires : goal.output_length-need-requires
output_length-need-requires c = record { enough = c.requires.enough; most = c.requires.most }

pub output_verdict-requires : goal.output_verdict-requires
output_verdict-requires c = c.requires.most

pub returns : goal.returns
returns c = let a = c.args in
    by_output a.from a.to a.knots.now a.allowance a.room (sym c.is_linear.ensures ∙ c.if-is_linear.false)
    (sym c.is_allowance.ensures ∙ c.if-not-is_allowance.false) c.output_length-need.ensures
    c.output_verdict.ensures
