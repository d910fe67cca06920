-- The invariant: the faults of the rows passed are written, at most 30 bytes each.
use Rattle.std.proofs.Common.{◌*◌, length}
use Rattle.whole.specs.Held.{held_all}
use Rattle.text.specs.Pens.{Writes}
use Rattle.ask_sheet.specs.Contract.{labels_to}
use Rattle.ask_verdict.specs.Faults.{faults_to}
use Rattle.ask_verdict.specs.Told.{faults_text}
use Rattle.ask_verdict.proofs.put_rows.Given as goal

abbrev pub invariant-loop-i : goal.invariant-loop-i
invariant-loop-i l =
    Writes l.initial.pen (faults_text (faults_to l.k l.w (held_all l.rows) (labels_to l.labels (length l.rows)) l.i)) (30 * l.i) l.pen
