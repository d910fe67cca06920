-- The verdict at `ask`; before it a line of the sheet, after it a question.
use Rattle.std.proofs.Common.{sym, subst, ◌≤◌}
use Rattle.text.proofs.Writing.{nothing}
use Rattle.lines_machine.specs.Contract.{said_of}
use Rattle.ask_sheet.specs.Contract.{sheet_of, line_in, last_line, Sound}
use Rattle.ask.proofs.Sound.{sound_after}
use Rattle.ask.proofs.Steps.{as_text, ask_next, ask_text, read_next, read_text, told_next, told_text}
use Rattle.ask.proofs.QuestionsMachine.line.Goals as goal

pub returns-then-is_line-clause-state : goal.returns-then-is_line-clause-state
returns-then-is_line-clause-state c = let q = c.args.self.now in
    rw c.in-Reading.is
    (ask_next (sheet_of c.in-Reading.s q.rows q.labels) (said_of c.args.line) c.is_line.ensures c.if-is_line.true c.verdict-t.ensures.asked)

pub returns-then-is_line-clause-wrote : goal.returns-then-is_line-clause-wrote
returns-then-is_line-clause-wrote c = let q = c.args.self.now in
    rw c.in-Reading.is
    (as_text (ask_text (sheet_of c.in-Reading.s q.rows q.labels) (said_of c.args.line) c.is_line.ensures c.if-is_line.true) c.verdict-t.ensures.text)

pub returns-else-is_line-clause-state : goal.returns-else-is_line-clause-state
returns-else-is_line-clause-state c = let q = c.args.self.now in
    rw c.in-Reading.is
    (read_next (sheet_of c.in-Reading.s q.rows q.labels) (said_of c.args.line) c.is_line.ensures c.if-is_line.false c.line.ensures.sheet)

pub returns-else-is_line-clause-kept : goal.returns-else-is_line-clause-kept
returns-else-is_line-clause-kept c = let q = c.args.self.now in
    let k : (line_in c.in-Reading.s ≤ last_line) × Sound (sheet_of c.in-Reading.s q.rows q.labels) = rw c.in-Reading.is at c.requires.keeps in
    (c.line.ensures.line_after, subst (λ s. Sound s) (sym c.line.ensures.sheet) (sound_after _ (said_of c.args.line) k.1))

pub returns-else-is_line-clause-wrote : goal.returns-else-is_line-clause-wrote
returns-else-is_line-clause-wrote c = let q = c.args.self.now in
    rw c.in-Reading.is
    (as_text (read_text (sheet_of c.in-Reading.s q.rows q.labels) (said_of c.args.line) c.is_line.ensures c.if-is_line.false) (nothing _ _))

pub returns-in-Told-clause-state : goal.returns-in-Told-clause-state
returns-in-Told-clause-state c = rw c.in-Told.is (told_next _ (said_of c.args.line) c.answer-r.ensures.held)

pub returns-in-Told-clause-wrote : goal.returns-in-Told-clause-wrote
returns-in-Told-clause-wrote c = rw c.in-Told.is (as_text (told_text _ (said_of c.args.line)) c.answer-r.ensures.text)
