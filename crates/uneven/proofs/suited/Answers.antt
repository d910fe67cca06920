-- By the inversion: a refusal of the times, 11, or the depth at the place.
use Rattle.std.specs.Prelude.{Err}
use Rattle.inverse_segment.specs.Inversion.{Inversion}
use mathlib.Core.Path.{sym, ap, subst, ◌∙◌}
use Prim.Native.Nat.{◌<◌}
use Rattle.inverse_segment.specs.Answer.{count_told}
use Rattle.uneven.specs.Uneven.{suited}
use Rattle.uneven.proofs.suited.Goals as goal

pub depth_of-requires : goal.depth_of-requires
depth_of-requires c = subst (λ (i : Inversion). count_told i < 4294967295) c.in-Ok.is c.requires

pub returns-in-Err-Refused : goal.returns-in-Err-Refused
returns-in-Err-Refused c = sym (ap (λ (i : Inversion). suited i (λ _. c.args.e))
    (c.in-Err-Refused.is ∙ ap Err (rw c.in-Err-Refused.is at c.in-Err-Refused.field-0-is)))

pub returns-in-Err-OffCurve : goal.returns-in-Err-OffCurve
returns-in-Err-OffCurve c = sym (ap (λ (i : Inversion). suited i (λ _. c.args.e))
    (c.in-Err-OffCurve.is ∙ ap Err (rw c.in-Err-OffCurve.is at c.in-Err-OffCurve.field-0-is)))

pub returns-in-Ok : goal.returns-in-Ok
returns-in-Ok c = c.depth_of.ensures ∙ sym (ap (λ (i : Inversion). suited i (λ _. c.args.e)) c.in-Ok.is)
