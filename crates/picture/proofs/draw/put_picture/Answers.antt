-- The parts, one after another.
use Rattle.std.proofs.Common.{arith}
use Rattle.text.proofs.Pens.{within, chained}
use lib.Ieee.{of_bits}
use Rattle.lines_reply.specs.Contract.{longest}
use Rattle.picture.specs.Picture.{picture_text}
use Rattle.picture.proofs.draw.put_picture.Goals as goal

pub returns : goal.returns
unfolding picture_text of_bits
returns c = within longest (chained (chained (chained (chained (chained c.put_head.ensures c.put_time_name.ensures) c.put_time_axis.ensures) (rw
    c.spline.ensures at c.put_body.ensures)) c.put_fault.ensures) c.word.ensures) (omega arith)
