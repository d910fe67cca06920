-- The weighting comes only in a round by regula falsi with a repeated side; a case for each way.
use mathlib.Core.Path.{sym}
use borrow.Author.Tests.{lt-ltb, le-ltb}
use Rattle.inverse_segment.specs.Round.{weighed}
use Rattle.inverse_segment.proofs.choice.weighed.Goals as goal

pub returns-then-st-gt0 : goal.returns-then-st-gt0
unfolding weighed
returns-then-st-gt0 c = simp (c.if-regula_falsi.true, lt-ltb _ _ c.if-st-gt0.true, sym c.is_last.ensures) c.reweighed.ensures

pub returns-then-regula_falsi : goal.returns-then-regula_falsi
unfolding weighed
returns-then-regula_falsi c = simp (c.if-regula_falsi.true, le-ltb _ _ c.if-st-gt0.false)

pub returns : goal.returns
unfolding weighed
returns c = simp c.if-regula_falsi.false
