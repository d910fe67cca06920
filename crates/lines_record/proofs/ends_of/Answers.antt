-- A case for a name that says a rule of the ends and for one that does not, as in the definition.
use mathlib.Core.Path.{sym, ◌∙◌}
use Rattle.lines_record.proofs.ends_of.Goals as goal

pub returns-in_default : goal.returns-in_default
returns-in_default c = simp (sym c.ends_named.ensures ∙ c.in_default.is)

pub returns : goal.returns
returns c = simp (sym c.ends_named.ensures ∙ c.in-Some.is)
