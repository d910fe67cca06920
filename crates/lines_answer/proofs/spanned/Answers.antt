-- A good span is kept and nothing is told (`span_silent`); any other is refused and changes nothing (`span_refused`).
use native.Mathlib.Omega.{arith}
use mathlib.Core.Path.{sym, ◌∙◌}
use lib.ListN.{take}
use Rattle.lines_answer.proofs.Records.{span_silent, span_refused}
use Rattle.lines_answer.proofs.spanned.Goals as goal

pub returns-then-is_span : goal.returns-then-is_span
returns-then-is_span c = let a = c.args in let k =
    span_silent a.t a.m (take a.n a.table.now) a.s (sym c.is_span.ensures ∙ c.if-is_span.true) in
    record { held = sym k.1; told = sym k.0; few = omega arith; lent = omega arith }

pub returns : goal.returns
returns c = let a = c.args in let k =
    span_refused a.t a.m (take a.n a.table.now) a.s (sym c.is_span.ensures ∙ c.if-is_span.false) in
    record { held = sym k.1; told = sym k.0; few = omega arith; lent = omega arith }
