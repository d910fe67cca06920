-- A good span replaces the one before (`span_taken`); any other is refused and changes nothing (`span_refused`).
use native.Mathlib.Omega.{arith}
use mathlib.Core.Path.{sym, ◌∙◌}
use Rattle.compare_lines.proofs.Entering.{span_taken, span_refused}
use Rattle.compare_lines.proofs.spanned.Goals as goal

pub returns-then-is_span : goal.returns-then-is_span
returns-then-is_span c = let a = c.args in let k =
    span_taken a.t a.n a.s a.knots.now (sym c.is_span.ensures ∙ c.if-is_span.true) in
    record { held = k.0; told = k.1; few = omega arith }

pub returns : goal.returns
returns c = let a = c.args in let k =
    span_refused a.t a.n a.s a.knots.now (sym c.is_span.ensures ∙ c.if-is_span.false) in
    record { held = k.0; told = k.1; few = omega arith }
