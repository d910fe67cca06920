-- A line that is a depth, and one that is not.
use native.Mathlib.Omega.{arith}
use Rattle.sheet.proofs.Lines.{no_tab, no_label, long_label, labelled}
use Rattle.sheet.proofs.depth_line.Goals as goal

pub returns-then-l-t : goal.returns-then-l-t
returns-then-l-t c = no_tab _ _ c.place_of-t.ensures.answer (omega arith)

pub returns-then-t-lt1 : goal.returns-then-t-lt1
returns-then-t-lt1 c = no_label _ _ c.place_of-t.ensures.answer (omega arith) (omega arith)

pub returns-then-t-gt16 : goal.returns-then-t-gt16
returns-then-t-gt16 c = long_label _ _ c.place_of-t.ensures.answer (omega arith) (omega arith) (omega arith)

pub returns : goal.returns
returns c = labelled _ _ c.place_of-t.ensures.answer (omega arith) (omega arith) (omega arith) c.depth_in.ensures
