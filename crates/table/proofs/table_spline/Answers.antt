-- With a good span the call is the base's; without one the length's row, or 14, is the first that applies.
use mathlib.Core.Path.{sym, ◌∙◌}
use Rattle.table.proofs.Spans.{spline_base, spline_spanless}
use Rattle.table.proofs.table_spline.Goals as goal

pub returns-then-is_span : goal.returns-then-is_span
returns-then-is_span c = c.spline.ensures ∙ sym
    (spline_base c.args.t c.args.x c.args.knots.now (sym c.is_span.ensures ∙ c.if-is_span.true))

pub returns : goal.returns
returns c = spline_spanless c.args.t c.args.x c.args.knots.now _ (sym c.is_span.ensures ∙ c.if-is_span.false)
    c.without_span.ensures
