-- Sixteen digits are the knot's bits; anything else says nothing.
use mathlib.Core.Path.{sym, ◌∙◌}
use Rattle.compare_lines.proofs.knot_of.Goals as goal

pub returns-in_default : goal.returns-in_default
returns-in_default c = simp (sym c.hex.ensures ∙ c.in_default.is)

pub returns : goal.returns
returns c = simp (sym c.hex.ensures ∙ c.in-Some.is)
