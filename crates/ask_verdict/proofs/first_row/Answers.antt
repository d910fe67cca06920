-- Each kind has its first row.
use mathlib.Core.Path.{refl, sym, ◌∙◌}
use borrow.Author.Tests.{ne_eqb}
use native.Mathlib.Omega.{arith}
use Rattle.ask_verdict.proofs.first_row.Goals as goal

pub returns-then-step-eq1 : goal.returns-then-step-eq1
returns-then-step-eq1 c = rw (c.in-Drawn.is, sym c.step.ensures.answer ∙ c.if-step-eq1.true) (record { answer = refl; most = omega arith })

pub returns-else-step-eq1 : goal.returns-else-step-eq1
returns-else-step-eq1 c = rw (c.in-Drawn.is, ← c.step.ensures.answer, ne_eqb c.step.result 1 c.if-step-eq1.false) (record { answer = refl; most = omega arith })

pub returns-in-Monotone : goal.returns-in-Monotone
returns-in-Monotone c = rw c.in-Monotone.is (record { answer = refl; most = omega arith })
