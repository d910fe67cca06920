-- Before the first curve every record but `curve` is bad (`first`); after it the table holds the curve (`later`).
use native.Mathlib.Omega.{arith}
use Prim.Native.Nat.{◌≤◌}
use Rattle.lines_answer.specs.Answer.{places}
use Rattle.picture.proofs.taken.Goals as goal

pub later-requires : goal.later-requires
later-requires c = let k : c.in-Curve.n ≤ places = rw c.in-Curve.is at
    c.requires.held in record { count = omega arith; table = omega arith }

pub returns-in-Nothing : goal.returns-in-Nothing
returns-in-Nothing c = rw c.in-Nothing.is c.first.ensures

pub returns-in-Curve : goal.returns-in-Curve
returns-in-Curve c = rw c.in-Curve.is c.later.ensures
