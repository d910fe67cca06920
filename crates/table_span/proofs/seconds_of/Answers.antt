-- A good span is at most a day, which is what the second's function asks for; without one there is no second.
use mathlib.Core.Path.{sym, ◌∙◌}
use Rattle.table_span.proofs.Spans.{good_least}
use Rattle.table_span.proofs.seconds_of.Goals as goal

pub second-requires : goal.second-requires
second-requires c = (good_least c.args.span (sym c.is_span.ensures ∙ c.if-is_span.true)).1

pub returns-then-is_span : goal.returns-then-is_span
returns-then-is_span c = simp ((sym c.is_span.ensures ∙ c.if-is_span.true), c.second.ensures.answer)

pub returns : goal.returns
returns c = simp (sym c.is_span.ensures ∙ c.if-is_span.false)
