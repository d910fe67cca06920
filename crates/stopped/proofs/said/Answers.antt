-- The ends are evaluated once. Each way out is a case of the definition by the tests before it; behind them all it is what the inversion found.
use mathlib.Core.Path.{sym, ◌∙◌}
use Rattle.stopped.proofs.Ends.{said_flat, said_start, said_end, said_before, said_beyond, said_between}
use Rattle.table.specs.Calls.{timed_of}
use Rattle.stopped.proofs.said.Goals as goal

pub returns-then-e : goal.returns-then-e
returns-then-e c = let a = c.args in
    let x = timed_of a.span a.i in
    said_flat a.b a.knots.now a.y x c.segments-k.ensures c.curve_ends-e.ensures c.if-e.true

pub returns-then-y-e : goal.returns-then-y-e
returns-then-y-e c = let a = c.args in
    let x = timed_of a.span a.i in
    said_start a.b a.knots.now a.y x c.segments-k.ensures c.curve_ends-e.ensures c.if-e.false c.if-y-e.true

pub returns-then-y-e-2 : goal.returns-then-y-e-2
returns-then-y-e-2 c = let a = c.args in
    let x = timed_of a.span a.i in
    said_end a.b a.knots.now a.y x c.segments-k.ensures c.curve_ends-e.ensures c.if-e.false c.if-y-e.false c.if-y-e-2.true

pub returns-then-is_before : goal.returns-then-is_before
returns-then-is_before c = let a = c.args in
    let x = timed_of a.span a.i in
    said_before a.b a.knots.now a.y x c.segments-k.ensures c.curve_ends-e.ensures c.if-e.false
    c.if-y-e.false c.if-y-e-2.false (sym c.is_before.ensures ∙ c.if-is_before.true)

pub returns-then-is_beyond : goal.returns-then-is_beyond
returns-then-is_beyond c = let a = c.args in
    let x = timed_of a.span a.i in
    said_beyond a.b a.knots.now a.y x c.segments-k.ensures c.curve_ends-e.ensures c.if-e.false
    c.if-y-e.false c.if-y-e-2.false
    (sym c.is_before.ensures ∙ c.if-is_before.false) (sym c.is_beyond.ensures ∙ c.if-is_beyond.true)

pub returns : goal.returns
returns c = let a = c.args in let x = timed_of a.span a.i in
    said_between a.b a.knots.now a.y x c.segments-k.ensures c.curve_ends-e.ensures c.if-e.false c.if-y-e.false c.if-y-e-2.false (sym
    c.is_before.ensures ∙
    c.if-is_before.false) (sym c.is_beyond.ensures ∙ c.if-is_beyond.false) c.found.ensures
