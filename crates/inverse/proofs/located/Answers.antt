-- Three ways out, as in the definition: at the low end, at the high end, and the search.
use mathlib.Core.Path.{sym, ◌∙◌}
use lib.Ieee.{of_bits}
use Rattle.spline.specs.Segment.{segment_of}
use Rattle.inverse_segment.specs.Method.{rule_of}
use Rattle.inverse.proofs.Glue.{located_low, located_high, located_searched}
use Rattle.inverse.proofs.located.Goals as goal

pub returns-then-is_at_low : goal.returns-then-is_at_low
unfolding of_bits
returns-then-is_at_low c = λ ev l. located_low (rule_of c.args.how) c.args.e ev (segment_of c.args.b c.args.knots.now) c.args.k
    c.args.y c.args.precision c.args.limit (sym c.is_at_low.ensures ∙ c.if-is_at_low.true)
    (c.end_place.ensures ev l)

pub returns-then-is_at_high : goal.returns-then-is_at_high
unfolding of_bits
returns-then-is_at_high c = λ ev l. located_high (rule_of c.args.how) c.args.e ev (segment_of c.args.b c.args.knots.now) c.args.k
    c.args.y c.args.precision c.args.limit
    (sym c.is_at_low.ensures ∙ c.if-is_at_low.false)
    (sym c.is_at_high.ensures ∙ c.if-is_at_high.true) (c.end_place-then-is_at_high.ensures ev l)

pub returns : goal.returns
returns c = λ ev l. located_searched (rule_of c.args.how) c.args.e ev (segment_of c.args.b c.args.knots.now) c.args.k
    c.args.y c.args.precision c.args.limit
    (sym c.is_at_low.ensures ∙ c.if-is_at_low.false)
    (sym c.is_at_high.ensures ∙ c.if-is_at_high.false) (c.searched.ensures ev l)
