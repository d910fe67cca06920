-- Refused by a row before the seams, or by the seam that the scan finds; otherwise what is written is the plain conversion's. Assumes nothing.
use Rattle.error.proofs.Exits.{exit}
use mathlib.Core.Path.{sym, ap, ◌∙◌}
use native.Mathlib.Nat.{le_trans, le_of_eq}
use native.Mathlib.Omega.{arith}
use lib.ListN.{length}
use Rattle.convert.specs.Conversion.{Conversion}
use Rattle.convert.specs.Buffer.{answer_of, buffer_of}
use Rattle.convert.proofs.Verdicts.{spline_passed, output_steps}
use Rattle.convert.proofs.Glue.{spline_written}
use Rattle.convert_strict.proofs.Verdicts.{found, refused_before, plain_passes, seam_refused, seam_kept}
use Rattle.convert_strict.proofs.Call.{strict_refuses, strict_passes}
use Rattle.convert_strict.proofs.convert_spline_strict.Goals as goal

pub lost_seam-requires : goal.lost_seam-requires
lost_seam-requires c = let a = c.args in
    let p = sym c.allowed_verdict.ensures ∙ c.in_ok-allowed_verdict.was in
    let h = spline_passed a.from a.to a.knots.now (length a.out.now)
    (plain_passes a.from a.to a.knots.now a.allowance (length a.out.now) p) in
    record { step = c.step-step.ensures.positive; some = c.step-stride.ensures.positive; few = c.step-stride.ensures.most; enough = h.0.least; most = h.0.most }

pub returns-in-Some : goal.returns-in-Some
returns-in-Some c = let a = c.args in
    let p = sym c.allowed_verdict.ensures
    ∙ c.in_ok-allowed_verdict.was in
    let s = found a.from a.to a.knots.now a.allowance c.conversion_matrix-m.ensures
    c.step-step.ensures.answer c.step-stride.ensures.answer c.in-Some.ensures.lowest in
    let e = strict_refuses a.from a.to a.knots.now a.allowance (length a.out.now)
    (seam_refused a.from a.to a.knots.now a.allowance (length a.out.now) p _ s c.in-Some.ensures.later) in
    record { answer = sym (ap answer_of e); buffer = sym (ap (λ (x : Conversion). buffer_of x a.out.now) e) }

pub put_windows-requires : goal.put_windows-requires
put_windows-requires c = let a = c.args in
    let p =
    sym c.allowed_verdict.ensures
    ∙ c.in_ok-allowed_verdict.was in
    let h =
    spline_passed a.from a.to a.knots.now (length a.out.now)
    (plain_passes a.from a.to a.knots.now a.allowance (length a.out.now) p) in
    record {
      step = c.step-step.ensures.positive;
      some = c.step-stride.ensures.positive;
      few = c.step-stride.ensures.most;
      enough = h.0.least;
      most = h.0.most;
      room =
          le_trans (le_of_eq (output_steps a.from a.to (length a.knots.now) _ _ c.step-step.ensures.answer c.step-stride.ensures.answer)) h.1.enough;
    }

pub returns-in_err-allowed_verdict : goal.returns-in_err-allowed_verdict
returns-in_err-allowed_verdict c = let a = c.args in
    let e = strict_refuses a.from a.to a.knots.now a.allowance (length a.out.now) (refused_before a.from a.to a.knots.now
    a.allowance (length a.out.now) (sym c.allowed_verdict.ensures ∙ c.in_err-allowed_verdict.was)) in
    record {
      answer = exit _ _ c.from_residual.ensures.1 ∙ sym (ap answer_of e);
      buffer = sym (ap (λ (x : Conversion). buffer_of x a.out.now) e);
    }

pub returns : goal.returns
returns c = let a = c.args in
    let p = sym c.allowed_verdict.ensures ∙ c.in_ok-allowed_verdict.was in
    let s = found a.from a.to a.knots.now a.allowance c.conversion_matrix-m.ensures c.step-step.ensures.answer c.step-stride.ensures.answer
    (sym c.in_default.ensures.lowest) in
    let e = strict_passes a.from a.to a.knots.now a.allowance (length a.out.now) (seam_kept a.from a.to a.knots.now
    a.allowance (length a.out.now) p _ s (omega arith)) in
    let t = spline_written a.from a.to a.knots.now a.out.now _ _ _ _ _
    (plain_passes a.from a.to a.knots.now a.allowance (length a.out.now) p) c.conversion_matrix-m.ensures c.step-step.ensures.answer
    c.step-stride.ensures.answer c.step-stride.ensures.most c.put_windows.ensures.answer
    c.put_windows.ensures.out in
    record { answer = t.answer ∙ sym (ap answer_of e); buffer = t.buffer ∙ sym (ap (λ (x : Conversion). buffer_of x a.out.now) e) }
