-- The first line names the curve, or is at fault.
use mathlib.Core.Path.{sym, ap, ◌∙◌}
use Rattle.ask_sheet.specs.Sheet.{named}
use Rattle.ask_sheet.specs.Contract.{labels_to}
use native.Mathlib.Omega.{arith}
use Rattle.ask_sheet.proofs.first.Goals as goal

pub returns-in_default : goal.returns-in_default
returns-in_default c = record { sheet = (λ t s. ap named (sym c.in_default.is ∙ c.kind_named.ensures)); line_after = omega arith }

pub returns : goal.returns
unfolding labels_to
returns c = record { sheet = (λ t s. ap named (sym c.in-Some.is ∙ c.kind_named.ensures)); line_after = omega arith }
