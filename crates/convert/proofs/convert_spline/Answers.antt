-- The verdict is the definition's. Where it passed the windows fit into the buffer, and what is written is the definition's list.
use Rattle.error.proofs.Exits.{exit}
use mathlib.Core.Path.{sym, ◌∙◌}
use native.Mathlib.Nat.{le_trans, le_of_eq}
use lib.ListN.{length}
use Rattle.convert.proofs.Verdicts.{spline_passed, output_steps}
use Rattle.convert.proofs.Glue.{spline_refused, spline_written}
use Rattle.convert.proofs.convert_spline.Goals as goal

pub put_windows-requires : goal.put_windows-requires
put_windows-requires c = let a = c.args in
    let h = spline_passed a.from a.to a.knots.now (length a.out.now)
    (sym c.spline_verdict.ensures ∙ c.in_ok-spline_verdict.was) in record {
      step = c.step.ensures.positive;
      some = c.step-2.ensures.positive;
      few = c.step-2.ensures.most;
      enough = h.0.least;
      most = h.0.most;
      room = le_trans (le_of_eq
          (output_steps a.from a.to (length a.knots.now) _ _ c.step.ensures.answer c.step-2.ensures.answer))
          h.1.enough;
    }

pub returns-in_err-spline_verdict : goal.returns-in_err-spline_verdict
returns-in_err-spline_verdict c = let a = c.args in
    let t = spline_refused a.from a.to a.knots.now a.out.now _
    (sym c.spline_verdict.ensures ∙ c.in_err-spline_verdict.was) in
    record { answer = exit _ _ c.from_residual.ensures.1 ∙ t.answer; out = t.buffer }

pub returns : goal.returns
returns c = let a = c.args in
    let t = spline_written a.from a.to a.knots.now a.out.now _ _ _ _ _
    (sym c.spline_verdict.ensures ∙ c.in_ok-spline_verdict.was)
    c.conversion_matrix-m.ensures c.step.ensures.answer c.step-2.ensures.answer
    c.step-2.ensures.most c.put_windows.ensures.answer c.put_windows.ensures.out in
    record { answer = t.answer; out = t.buffer }
