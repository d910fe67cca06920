-- The verdict says whether the conversion would be refused (`not_turned`, `turn_refused`).
use mathlib.Core.Path.{sym, ◌∙◌}
use Rattle.picture.proofs.Steps.{not_turned, turn_refused}
use Rattle.picture.proofs.turned.Goals as goal

pub returns-in-Ok : goal.returns-in-Ok
returns-in-Ok c = let a = c.args in λ f s l.
    not_turned a.b a.c a.knots.now f s (sym c.spline_verdict-v.ensures ∙ c.in-Ok.is)

pub returns-in-Err : goal.returns-in-Err
returns-in-Err c = let a = c.args in λ f s l.
    turn_refused a.b a.c a.knots.now f s _ (sym c.spline_verdict-v.ensures ∙ c.in-Err.is)
