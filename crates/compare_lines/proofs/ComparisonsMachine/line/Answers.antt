-- What the line says is taken in, and its refusal written.
use Rattle.std.proofs.Common.{arith}
use Rattle.text.proofs.Pens.{lands}
use Rattle.lines_machine.specs.Contract.{said_of}
use Rattle.compare_lines.proofs.Entering.{line_state, line_tells}
use Rattle.compare_lines.proofs.ComparisonsMachine.line.Goals as goal

pub returns-clause-state : goal.returns-clause-state
returns-clause-state c = line_state (said_of c.args.line) c.said_by.ensures c.take_in-t.ensures

pub returns-clause-wrote : goal.returns-clause-wrote
returns-clause-wrote c = rw (← line_tells (said_of c.args.line) c.said_by.ensures c.take_in-t.ensures) (grind (arith, lands))
