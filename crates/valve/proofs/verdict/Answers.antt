-- `valve::verdict` meets its contract: the rows in their order, by the tests that were made. Assumes nothing.
use Rattle.std.proofs.Common.{sym, arith}
use Rattle.valve.proofs.Refusals.{too_few, too_many, too_far, too_large, passes}
use Rattle.valve.proofs.verdict.Goals as goal

pub returns-then-knots-lt4 : goal.returns-then-knots-lt4
returns-then-knots-lt4 c = too_few c.args.step c.args.knots.now c.if-knots-lt4.true

pub returns-then-knots-gt4 : goal.returns-then-knots-gt4
returns-then-knots-gt4 c = let a = c.args in too_many a.step a.knots.now c.if-knots-lt4.false c.if-knots-gt4.true

pub returns-then-step-gt256 : goal.returns-then-step-gt256
returns-then-step-gt256 c = let a = c.args in too_far a.step a.knots.now c.if-knots-lt4.false c.if-knots-gt4.false c.if-step-gt256.true

pub returns-in-Some : goal.returns-in-Some
returns-in-Some c = let a = c.args in
    too_large a.step a.knots.now c.if-knots-lt4.false c.if-knots-gt4.false c.if-step-gt256.false c.in-Some.i c.in-Some.ensures.0 c.in-Some.ensures.1

pub returns : goal.returns
returns c = let a = c.args in
    passes a.step a.knots.now c.if-knots-lt4.false c.if-knots-gt4.false c.if-step-gt256.false _ (sym c.in_default.ensures) (omega arith)
