-- By the second of a good span, or by thousandths of the whole.
use native.Mathlib.Omega.{arith}
use mathlib.Core.Path.{refl, sym, ◌∙◌}
use Rattle.table_span.proofs.Spans.{good_least}
use Rattle.picture_finds.specs.Finds.{time_of}
use Rattle.picture_finds.proofs.time.Goals as goal

pub second-requires : goal.second-requires
second-requires c = (good_least c.args.span (sym c.is_span.ensures ∙ c.if-is_span.true)).1

pub returns-then-is_span : goal.returns-then-is_span
unfolding time_of
returns-then-is_span c = let good = sym c.is_span.ensures ∙ c.if-is_span.true in
    record { answer = rw (good, ← c.second.ensures.answer) refl; most = omega (arith, c.second.ensures.most, (good_least c.args.span good).1) }

pub returns : goal.returns
unfolding time_of
returns c = record { answer = rw (sym c.is_span.ensures ∙ c.if-is_span.false, ← c.second-2.ensures.answer) refl; most = omega (arith, c.second-2.ensures.most) }
