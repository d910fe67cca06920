-- A case for each rule of the ends; each is its function's contract.
use Rattle.inverse.proofs.Glue.{knot_ends_in, curve_ends_in}
use Rattle.inverse.proofs.ends_by.Goals as goal

pub returns-in-Knots : goal.returns-in-Knots
returns-in-Knots c = knot_ends_in c.args.ends c.args.b c.args.knots.now c.args.k c.requires.segments c.in-Knots.is
    c.knot_ends.ensures

pub returns-in-Curve : goal.returns-in-Curve
returns-in-Curve c = curve_ends_in c.args.ends c.args.b c.args.knots.now c.args.k c.requires.segments c.in-Curve.is
    c.curve_ends.ensures
