-- The basis of a kind.
use mathlib.Core.Path.{refl}
use Rattle.ask_verdict.proofs.basis_of.Goals as goal

pub returns-in-Drawn : goal.returns-in-Drawn
returns-in-Drawn c = rw c.in-Drawn.is refl

pub returns-in-Monotone : goal.returns-in-Monotone
returns-in-Monotone c = rw c.in-Monotone.is refl
