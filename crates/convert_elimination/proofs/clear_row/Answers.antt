-- Three ways out: the pivot's own row, a row with a zero in the column, and a row that is reduced; the definition has the same three.
use mathlib.Core.Path.{sym, ◌∙◌}
use Rattle.convert_elimination.proofs.Steps.{own_row, clear_already, not_clear}
use lib.Ieee.{of_bits}
use Rattle.convert_elimination.proofs.clear_row.Goals as goal

pub returns-then-k-i : goal.returns-then-k-i
returns-then-k-i c = sym (own_row _ _ _ c.if-k-i.true)

pub returns-then-a-k : goal.returns-then-a-k
unfolding of_bits
returns-then-a-k c = sym (clear_already _ _ _ c.if-k-i.false c.if-a-k.true)

pub returns : goal.returns
unfolding of_bits
returns c = c.reduce.ensures ∙ sym (not_clear _ _ _ c.if-k-i.false c.if-a-k.false)
