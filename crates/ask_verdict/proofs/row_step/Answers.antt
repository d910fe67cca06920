-- Each kind has its step.
use mathlib.Core.Path.{refl}
use native.Mathlib.Omega.{arith}
use Rattle.ask_verdict.proofs.row_step.Goals as goal

pub returns-in-Drawn : goal.returns-in-Drawn
returns-in-Drawn c = rw c.in-Drawn.is (record { answer = c.step.ensures.answer; positive = c.step.ensures.positive; most = c.step.ensures.most })

pub returns-in-Monotone : goal.returns-in-Monotone
returns-in-Monotone c = rw c.in-Monotone.is (record { answer = refl; positive = omega arith; most = omega arith })
