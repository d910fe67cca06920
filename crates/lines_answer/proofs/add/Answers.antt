-- The curve after a knot holds what the keeper keeps; whether it found a place decides what is told.
use mathlib.Core.Path.{ap}
use Rattle.keeper.specs.Contract.{count_after}
use native.Mathlib.Omega.{arith}
use Rattle.lines_answer.proofs.Answers.{knot_held, knot_taken, knot_dropped}
use Rattle.lines_answer.proofs.add.Goals as goal

pub returns-in-Some : goal.returns-in-Some
returns-in-Some c = λ l. let a = c.args in
    let k = knot_held a.t a.m a.n a.x a.table.now c.keep.ensures _ (ap (count_after a.n) c.in-Some.is) in
    record { held = k.0; told = knot_taken a.t a.m a.n a.x a.table.now c.keep.ensures _ c.in-Some.is; few = k.1; lent = omega arith }

pub returns-in-None : goal.returns-in-None
returns-in-None c = λ l. let a = c.args in
    let k = knot_held a.t a.m a.n a.x a.table.now c.keep.ensures _ (ap (count_after a.n) c.in-None.is) in
    record { held = k.0; told = knot_dropped a.t a.m a.n a.x a.table.now c.keep.ensures c.in-None.is; few = k.1; lent = omega arith }
