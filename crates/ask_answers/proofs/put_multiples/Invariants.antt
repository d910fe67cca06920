-- The invariant: the lines of the multiples passed are written, at most 40 bytes each.
use Rattle.std.proofs.Common.{◌*◌}
use Rattle.text.specs.Pens.{Writes}
use Rattle.ask_answers.specs.Answers.{multiples_text}
use Rattle.ask_answers.proofs.put_multiples.Given as goal

abbrev pub invariant-loop-i : goal.invariant-loop-i
invariant-loop-i l = Writes l.initial.pen (multiples_text l.b l.knots l.span l.n l.i) (40 * l.i) l.pen
