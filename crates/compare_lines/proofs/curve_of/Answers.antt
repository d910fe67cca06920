-- The field is a basis's name, or says nothing.
use mathlib.Core.Path.{sym, ◌∙◌}
use Rattle.compare_lines.proofs.curve_of.Goals as goal

pub returns-in_default : goal.returns-in_default
returns-in_default c = simp (sym c.basis_named.ensures ∙ c.in_default.is)

pub returns : goal.returns
returns c = simp (sym c.basis_named.ensures ∙ c.in-Some.is)
