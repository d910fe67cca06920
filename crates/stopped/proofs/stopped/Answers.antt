-- With a good span what the inversion answers decides: by its end rule the ends say which case it was, else what was found is told; without a span the
-- length's row, or 14, is the first that applies.
use mathlib.Core.Path.{sym, ◌∙◌}
use Rattle.inverse.proofs.Verdicts.{admitted}
use Rattle.inverse_segment.specs.Answer.{default_precision}
use Rattle.inverse_segment.specs.Method.{steady_limit}
use Rattle.stopped.proofs.Call.{without_span}
use Rattle.stopped.proofs.Decides.{no_row_applies, at_ends, elsewhere}
use Rattle.stopped.proofs.stopped.Goals as goal

pub said-requires : goal.said-requires
said-requires c = let a = c.args in
    let good = (sym c.is_span.ensures ∙ c.if-is_span.true) in
    let ended = sym c.is_by_end.ensures ∙ c.if-is_by_end.true in
    let p =
    admitted a.t.basis a.y a.knots.now a.check steady_limit default_precision
    (no_row_applies _ a.t a.y a.knots.now a.check c.spline_inverse_by-i.ensures ended) in record { span = good; enough = p.long; most = p.short }

pub returns-then-is_by_end : goal.returns-then-is_by_end
returns-then-is_by_end c = let a = c.args in let ended = sym c.is_by_end.ensures ∙ c.if-is_by_end.true in at_ends a.t a.y a.knots.now a.check
    (sym c.is_span.ensures ∙ c.if-is_span.true) c.spline_inverse_by-i.ensures ended c.said.ensures

pub found-requires : goal.found-requires
found-requires c = (sym c.is_span.ensures ∙ c.if-is_span.true)

pub returns-then-is_span : goal.returns-then-is_span
returns-then-is_span c = let a = c.args in let searched = sym c.is_by_end.ensures ∙ c.if-is_by_end.false in elsewhere a.t a.y a.knots.now
    a.check (sym c.is_span.ensures ∙ c.if-is_span.true) c.spline_inverse_by-i.ensures searched c.found.ensures

pub returns : goal.returns
returns c = let a = c.args
    in without_span a.t a.y a.knots.now a.check (sym c.is_span.ensures ∙ c.if-is_span.false) c.without_span.ensures
