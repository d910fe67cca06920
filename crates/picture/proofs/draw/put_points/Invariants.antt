-- The invariant: the first i points are written, at most 10 bytes each.
use Rattle.std.proofs.Common.{◌*◌}
use Rattle.text.specs.Pens.{Writes}
use Rattle.picture.specs.Picture.{points_text}
use Rattle.picture.proofs.draw.put_points.Given as goal

abbrev pub invariant-loop-i : goal.invariant-loop-i
invariant-loop-i l = Writes l.initial.pen (points_text l.b l.knots l.e l.p l.i) (10 * l.i) l.pen
