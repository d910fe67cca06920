-- A line where there is no direction.
use Rattle.ask_verdict.proofs.Texts.{as_told, still, one_text, no_text}
use Rattle.ask_verdict.specs.Faults.{flat}
use Rattle.ask_verdict.proofs.put_flat.Goals as goal

pub returns-in-Rising : goal.returns-in-Rising
returns-in-Rising c = rw c.in-Rising.is (as_told no_text (still 5 _))

pub returns-in-Falling : goal.returns-in-Falling
returns-in-Falling c = rw c.in-Falling.is (as_told no_text (still 5 _))

pub returns-in-Level : goal.returns-in-Level
returns-in-Level c = rw c.in-Level.is (as_told (one_text flat) c.word.ensures)
