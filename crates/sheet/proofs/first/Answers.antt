-- The first line names the basis, or is refused.
use native.Mathlib.Omega.{arith}
use mathlib.Core.Path.{sym, ap, ◌∙◌}
use Rattle.sheet.specs.Sheet.{named}
use Rattle.sheet.proofs.first.Goals as goal

pub returns-in_default : goal.returns-in_default
returns-in_default c = record { sheet = (λ t. ap named (sym c.in_default.is ∙ c.basis_named.ensures)); count_after = omega arith }

pub returns : goal.returns
returns c = record { sheet = (λ t. ap named (sym c.in-Some.is ∙ c.basis_named.ensures)); count_after = omega arith }
