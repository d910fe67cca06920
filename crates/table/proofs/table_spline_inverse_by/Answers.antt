-- With a good span the call is the base's, with the second; without one the length's row, or 14, is the first that applies.
use mathlib.Core.Path.{sym, ap, ◌∙◌}
use Rattle.table.specs.Calls.{timed_of}
use Rattle.table.proofs.Spans.{inverse_base, inverse_spanless}
use Rattle.table.proofs.table_spline_inverse_by.Goals as goal

pub with_second-requires : goal.with_second-requires
with_second-requires c = (sym c.is_span.ensures ∙ c.if-is_span.true)

pub returns-then-is_span : goal.returns-then-is_span
returns-then-is_span c = let a = c.args
    in c.with_second.ensures ∙ ap (timed_of a.t.span) c.spline_inverse_by.ensures
    ∙ sym (inverse_base a.o.ends a.o.method a.t a.y a.knots.now a.o.check a.o.limit a.o.precision
    (sym c.is_span.ensures ∙ c.if-is_span.true))

pub returns : goal.returns
returns c = let a = c.args
    in inverse_spanless a.o.ends a.o.method a.t a.y a.knots.now a.o.check a.o.limit a.o.precision _
    (sym c.is_span.ensures ∙ c.if-is_span.false) c.without_span.ensures
