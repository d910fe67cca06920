-- The inversion, the evaluation at its place and both counts of segments are the library's; by what they say the answer is the definition's (`answered`).
use mathlib.Core.Path.{ap, ◌∙◌}
use lib.Ieee.{Float}
use Rattle.spline.specs.Evaluation.{spline_of}
use Rattle.uneven.proofs.Cases.{room, answered}
use Rattle.uneven.proofs.depth_at.Goals as goal

pub suited-requires : goal.suited-requires
suited-requires c = let a = c.args in
    room a.tb a.y a.times.now a.limit a.precision c.ranges.limit.fits c.spline_inverse_with-a.ensures

pub returns-in-Err : goal.returns-in-Err
returns-in-Err c = let a = c.args in
    answered a.tb a.db a.times.now a.depths.now a.y a.limit a.precision c.spline_inverse_with-a.ensures
    (c.spline-e.ensures ∙ ap (λ (x : Float). spline_of a.db x a.depths.now) c.asked_at.ensures) c.segments.ensures c.segments-2.ensures
    c.depths_verdict-v.ensures c.in-Err.is c.unsuited.ensures

pub returns-in-Ok : goal.returns-in-Ok
returns-in-Ok c = let a = c.args in
    answered a.tb a.db a.times.now a.depths.now a.y a.limit a.precision c.spline_inverse_with-a.ensures
    (c.spline-e.ensures ∙ ap (λ (x : Float). spline_of a.db x a.depths.now) c.asked_at.ensures) c.segments.ensures c.segments-2.ensures
    c.depths_verdict-v.ensures c.in-Ok.is c.suited.ensures
