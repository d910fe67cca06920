-- The parts, one after another.
use Rattle.std.proofs.Common.{arith}
use Rattle.text.proofs.Pens.{within, chained}
use Rattle.picture.specs.Picture.{curve_text}
use Rattle.picture.proofs.draw.put_curve.Goals as goal

pub returns : goal.returns
unfolding curve_text
returns c = rw (← c.extent_of-e.ensures.answer, ← c.pieces.ensures.answer) (within 75000 (chained (chained (chained (chained (chained (chained
    c.put_depth_axis.ensures c.word.ensures) c.put_points.ensures) c.word-2.ensures) c.put_knots.ensures) c.word-3.ensures) c.put_finds.ensures) (omega
    arith))
