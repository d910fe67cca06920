-- The invariant: the columns still to come make of the matrix at hand what all columns make of the first one. A missing pivot ends both
-- sides alike.
use mathlib.Core.Path.{refl, sym, ap, ◌∙◌}
use Rattle.std.specs.Prelude.{Some}
use Rattle.convert_elimination.proofs.Steps.{goes_on, stops, all_done, answers, found_below}
use Rattle.convert_elimination.proofs.invert_4x4.Goals as goal

pub loop-i-init : goal.loop-i-init
loop-i-init c = refl

pub returns-in_err-k : goal.returns-in_err-k
returns-in_err-k c = rw c.from_residual.ensures (answers _ _ _ c.with_identity-a.ensures (sym (stops _ _ c.loop-i-test.true
    (sym c.pivot_row.ensures.answer ∙ c.in_err-k.was)) ∙ c.loop-i.invariant))

pub eliminate-b-requires : goal.eliminate-b-requires
eliminate-b-requires c = record { row = c.loop-i-test.true; column = found_below _ _ c.in_ok-k.was c.pivot_row.ensures.found }

pub loop-i-preserved : goal.loop-i-preserved
loop-i-preserved c =
    goes_on _ _ _ _ c.loop-i-test.true
    (sym c.pivot_row.ensures.answer ∙ c.in_ok-k.was) c.eliminate-b.ensures
    ∙ c.loop-i.invariant

pub returns : goal.returns
returns c = ap Some c.right_half.ensures ∙ answers _ _ _ c.with_identity-a.ensures
    (sym (all_done _ _ c.loop-i-test.false) ∙ c.loop-i.invariant)
