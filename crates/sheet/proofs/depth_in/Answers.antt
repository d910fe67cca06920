-- A sign or none, then the thousandths.
use native.Mathlib.Omega.{arith}
use mathlib.Core.Path.{sym, ap, ◌∙◌}
use mathlib.Core.Bool.{true, false}
use Rattle.sheet.specs.Sheet.{signed}
use Rattle.sheet.proofs.Lines.{minus_some, minus_depth, plain_depth}
use Rattle.sheet.proofs.depth_in.Goals as goal

pub slice_bounds-thousandths-count : goal.slice_bounds-thousandths-count
slice_bounds-thousandths-count c = omega (arith, minus_some c.args.s.now (sym c.is_minus.ensures ∙ c.if-is_minus.true))

pub slice_bounds-thousandths-start : goal.slice_bounds-thousandths-start
slice_bounds-thousandths-start c = omega (arith, minus_some c.args.s.now (sym c.is_minus.ensures ∙ c.if-is_minus.true))

pub returns-in_err-n : goal.returns-in_err-n
returns-in_err-n c = rw c.from_residual.ensures (ap (signed true) (sym c.in_err-n.was) ∙ minus_depth _ c.is_minus.ensures
    c.if-is_minus.true c.thousandths.ensures)

pub returns-then-is_minus : goal.returns-then-is_minus
returns-then-is_minus c = ap (signed true) (sym c.in_ok-n.was) ∙ minus_depth _ c.is_minus.ensures
    c.if-is_minus.true c.thousandths.ensures

pub returns-in_err-n-2 : goal.returns-in_err-n-2
returns-in_err-n-2 c = rw c.from_residual-in_err-n-2.ensures (ap (signed false) (sym c.in_err-n-2.was) ∙ plain_depth _ c.is_minus.ensures
    c.if-is_minus.false c.thousandths-2.ensures)

pub returns : goal.returns
returns c = ap (signed false) (sym c.in_ok-n-2.was) ∙ plain_depth _ c.is_minus.ensures
    c.if-is_minus.false c.thousandths-2.ensures
