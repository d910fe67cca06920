-- What a line does to each state of the sheet, case by case.
use Rattle.sheet.proofs.Lines.{named_line, added_line, over_first, over_later, still_faulty}
use Rattle.sheet.proofs.line.Goals as goal

pub returns-in-Some-clause-sheet : goal.returns-in-Some-clause-sheet
returns-in-Some-clause-sheet c = rw (c.in-Unbegun.is, c.in-Some.is) (named_line c.in-Some.l.now (c.first.ensures.sheet c.args.table.now))

pub returns-in-None-clause-sheet : goal.returns-in-None-clause-sheet
returns-in-None-clause-sheet c = rw (c.in-Unbegun.is, c.in-None.is) over_first

pub returns-in-Some-line-clause-sheet : goal.returns-in-Some-line-clause-sheet
returns-in-Some-line-clause-sheet c = rw (c.in-On.is, c.in-Some-line.is) (added_line _ _ c.in-Some-line.l.now c.add.ensures.sheet)

pub returns-in-None-line-clause-sheet : goal.returns-in-None-line-clause-sheet
returns-in-None-line-clause-sheet c = rw (c.in-On.is, c.in-None-line.is) (over_later _ _)

pub returns-in-Faulty-clause-sheet : goal.returns-in-Faulty-clause-sheet
returns-in-Faulty-clause-sheet c = rw c.in-Faulty.is (still_faulty _ _)
