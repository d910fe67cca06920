-- A conversion that was made is told as a curve whose knots stand in the lent places; a refusal is told as one.
use native.Mathlib.Omega.{arith}
use mathlib.Core.Path.{sym, ◌∙◌}
use Rattle.convert.specs.Conversion.{converted_of}
use Rattle.lines_answer.specs.Answer.{places}
use Rattle.lines_answer.proofs.Answers.{turn_written, turn_refused}
use Rattle.lines_answer.proofs.converted_to.Goals as goal

pub returns-in-Ok : goal.returns-in-Ok
returns-in-Ok c = let pair = let a = c.args in
    turn_written a.t.span a.c (converted_of a.t.basis a.c a.knots.now places) _ a.converted.now _
    (sym c.in-Ok.is ∙ rw c.requires at c.convert_spline-i.ensures.answer)
    (rw c.requires at c.convert_spline-i.ensures.out) (omega arith) in record { reply = pair.0; lent = pair.1 }

pub returns-in-Err : goal.returns-in-Err
returns-in-Err c = let a = c.args in record {
  reply = turn_refused a.t.span a.c (converted_of a.t.basis a.c a.knots.now places) _
      (sym c.in-Err.is ∙ rw c.requires at c.convert_spline-i.ensures.answer);
  lent = omega arith;
}
