-- Three ways out, as in the definition: near the start, near the end, and the rounds.
use mathlib.Core.Path.{sym, ◌∙◌}
use lib.Ieee.{of_bits}
use Rattle.spline.specs.Segment.{horner_of}
use Rattle.inverse_segment.specs.Method.{rule_of}
use Rattle.inverse_segment.proofs.OneRound.{left_edge, right_edge, by_rounds}
use Rattle.inverse_segment.proofs.entered.Goals as goal

pub returns-then-is_near : goal.returns-then-is_near
unfolding of_bits
returns-then-is_near c = λ s ev k. c.stopped.ensures ∙ left_edge (rule_of c.args.how) (horner_of c.args.w) s c.args.y c.args.precision
    c.args.limit c.args.n c.args.v0 c.args.v1 ev k (sym c.if-is_near.true ∙ c.is_near.ensures)

pub returns-then-is_near-2 : goal.returns-then-is_near-2
unfolding of_bits
returns-then-is_near-2 c = λ s ev k. c.stopped-then-is_near-2.ensures ∙ right_edge (rule_of c.args.how) (horner_of c.args.w) s c.args.y c.args.precision
    c.args.limit c.args.n c.args.v0 c.args.v1 ev k
    (sym c.if-is_near.false ∙ c.is_near.ensures)
    (sym c.if-is_near-2.true ∙ c.is_near-2.ensures)

pub returns : goal.returns
unfolding of_bits
returns c = λ s ev k. by_rounds (rule_of c.args.how) (horner_of c.args.w) s c.args.y c.args.precision c.args.limit
    c.args.n c.args.v0 c.args.v1 ev k
    (sym c.if-is_near.false ∙ c.is_near.ensures) c.rounds.result
    (sym c.if-is_near-2.false ∙ c.is_near-2.ensures) (c.rounds.ensures s ev k)
