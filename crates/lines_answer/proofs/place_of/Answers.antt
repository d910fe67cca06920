-- A case for each answer of the inversion; each is told as the definition tells it.
use Rattle.inverse_segment.specs.declared.Miss.TheVariants.{Refused, OffCurve}
use Rattle.std.specs.Prelude.{Err, Ok}
use mathlib.Core.Path.{◌≡◌, refl, sym, ◌∙◌, ap}
use Rattle.lines_answer.specs.Answer.{found_of}
use Rattle.lines_answer.proofs.place_of.Goals as goal

pub returns-in-Err-Refused : goal.returns-in-Err-Refused
returns-in-Err-Refused c = let a = c.args in let e : found_of a.m a.t.basis a.y a.knots.now ≡ Err (Refused _) =
    sym c.spline_inverse_by-i.ensures ∙ (c.in-Err-Refused.is ∙ ap Err (rw c.in-Err-Refused.is at c.in-Err-Refused.field-0-is))
    in record { reply = λ l. rw e refl; lent = refl }

pub returns-in-Err-OffCurve : goal.returns-in-Err-OffCurve
returns-in-Err-OffCurve c = let a = c.args in let e : found_of a.m a.t.basis a.y a.knots.now ≡ Err (OffCurve _) =
    sym c.spline_inverse_by-i.ensures ∙ (c.in-Err-OffCurve.is ∙ ap Err (rw c.in-Err-OffCurve.is at c.in-Err-OffCurve.field-0-is))
    in record { reply = λ l. rw e refl; lent = refl }

pub returns-in-Ok : goal.returns-in-Ok
returns-in-Ok c = let a = c.args
    in let e : found_of a.m a.t.basis a.y a.knots.now ≡ Ok c.in-Ok.p =
    sym c.spline_inverse_by-i.ensures ∙ c.in-Ok.is
    in record { reply = λ l. rw (e, c.seconds_of-s.ensures) refl; lent = refl }
