-- A case for each answer of the evaluation; each is told as the definition tells it.
use mathlib.Core.Path.{refl, sym, ◌∙◌}
use Rattle.lines_answer.proofs.value_at.Goals as goal

pub returns-in-Ok : goal.returns-in-Ok
returns-in-Ok c = record { reply = λ l. simp (sym c.spline-e.ensures ∙ c.in-Ok.is); lent = refl }

pub returns-in-Err : goal.returns-in-Err
returns-in-Err c = record { reply = λ l. simp (sym c.spline-e.ensures ∙ c.in-Err.is); lent = refl }
