-- With a good span the call is the base's; without one the length's row, or 14, is the first that applies.
use mathlib.Core.Path.{sym, ◌∙◌}
use lib.ListN.{length}
use Rattle.table.proofs.Spans.{strict_base, strict_spanless, tells_base, tells_refusal}
use Rattle.table.proofs.table_convert_spline_strict.Goals as goal

pub returns-then-is_span : goal.returns-then-is_span
returns-then-is_span c = let pair = let a = c.args in
    let good = sym c.is_span.ensures ∙ c.if-is_span.true in
    tells_base a.t.span a.to a.out.now _ _ (strict_base a.t a.to a.knots.now a.allowance (length a.out.now) good)
    c.handed_on.ensures c.convert_spline_strict.ensures.answer c.convert_spline_strict.ensures.buffer in record { answer = pair.0; buffer = pair.1 }

pub returns : goal.returns
returns c = let pair = let a = c.args in
    let bad = sym c.is_span.ensures ∙ c.if-is_span.false in
    tells_refusal a.t.span a.to a.out.now _ _
    (strict_spanless a.t a.to a.knots.now a.allowance (length a.out.now) _ bad c.without_span.ensures) in record { answer = pair.0; buffer = pair.1 }
