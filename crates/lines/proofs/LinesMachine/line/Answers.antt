-- The line is answered as the record that it says.
use Rattle.lines_answer.specs.Contract.{curve_of}
use Rattle.lines_machine.specs.Contract.{said_of}
use Rattle.lines.proofs.Saying.{line_state, line_wrote}
use Rattle.lines.proofs.LinesMachine.line.Goals as goal

pub returns-clause-state : goal.returns-clause-state
returns-clause-state c = line_state _ (said_of c.args.line) c.said.ensures c.answered.ensures.state

pub returns-clause-wrote : goal.returns-clause-wrote
returns-clause-wrote c = line_wrote _ (said_of c.args.line) c.said.ensures c.answered.ensures.wrote
