-- A case for the end that moves.
use Rattle.inverse_segment.specs.Round.{moved}
use Rattle.inverse_segment.proofs.round.moved.Goals as goal

pub returns-then-lower_moves-clause-answer : goal.returns-then-lower_moves-clause-answer
unfolding moved
returns-then-lower_moves-clause-answer c = simp (c.if-lower_moves.true, c.repeats_of.ensures.answer)

pub returns-else-lower_moves-clause-answer : goal.returns-else-lower_moves-clause-answer
unfolding moved
returns-else-lower_moves-clause-answer c = simp (c.if-lower_moves.false, c.repeats_of-else-lower_moves.ensures.answer)
