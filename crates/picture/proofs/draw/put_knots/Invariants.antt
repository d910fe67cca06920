-- The invariant: the first j knots are written, at most 12 bytes each.
use Rattle.std.proofs.Common.{◌*◌}
use Rattle.text.specs.Pens.{Writes}
use Rattle.picture.specs.Picture.{knots_text}
use Rattle.picture.proofs.draw.put_knots.Given as goal

abbrev pub invariant-loop-j : goal.invariant-loop-j
invariant-loop-j l = Writes l.initial.pen (knots_text l.b l.knots l.e l.j) (12 * l.j) l.pen
