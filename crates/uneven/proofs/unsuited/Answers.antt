-- By the inversion: its own refusal, or that of the depths. Assumes nothing.
use Rattle.std.specs.Prelude.{Err}
use Rattle.inverse_segment.specs.Inversion.{Inversion}
use mathlib.Core.Path.{sym, ap, ◌∙◌}
use Rattle.uneven.specs.Uneven.{unsuited}
use Rattle.uneven.proofs.unsuited.Goals as goal

pub returns-in-Err-Refused : goal.returns-in-Err-Refused
returns-in-Err-Refused c = sym (ap (λ (i : Inversion). unsuited i c.args.r)
    (c.in-Err-Refused.is ∙ ap Err (rw c.in-Err-Refused.is at c.in-Err-Refused.field-0-is)))

pub returns-in-Err-OffCurve : goal.returns-in-Err-OffCurve
returns-in-Err-OffCurve c = sym (ap (λ (i : Inversion). unsuited i c.args.r)
    (c.in-Err-OffCurve.is ∙ ap Err (rw c.in-Err-OffCurve.is at c.in-Err-OffCurve.field-0-is)))

pub returns-in-Ok : goal.returns-in-Ok
returns-in-Ok c = sym (ap (λ (i : Inversion). unsuited i c.args.r) c.in-Ok.is)
