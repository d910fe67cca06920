-- The invariant: the lines of the first knots are written, 22 bytes each.
use Rattle.std.proofs.Common.{ℕ, ◌*◌, take}
use Rattle.text.specs.Pens.{Writes}
use Rattle.lines_reply.specs.Reply.{knots_text}
use Rattle.lines_reply.proofs.put_knots.Given as goal

abbrev pub invariant-loop-x : goal.invariant-loop-x
invariant-loop-x l = Writes l.initial.pen (knots_text (take l.x-index l.knots)) (22 * l.x-index) l.pen
