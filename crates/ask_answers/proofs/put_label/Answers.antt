-- A label in its place, or nothing.
use Rattle.std.proofs.Common.{arith}
use Rattle.text.proofs.Pens.{within, chained}
use Rattle.ask_verdict.proofs.Texts.{as_told, still}
use Rattle.std.proofs.Common.{sym, ◌∙◌}
use Rattle.ask_verdict.proofs.Labels.{cell, label_of}
use Rattle.ask_answers.proofs.Answers.{no_label, label_short}
use Rattle.ask_answers.proofs.put_label.Goals as goal

pub returns-then-i-rows : goal.returns-then-i-rows
returns-then-i-rows c = as_told (cell c.args.labels.now c.args.i c.label_len.ensures ∙ sym
    (label_of c.args.labels.now c.args.rows c.args.i (omega arith)))
    (within 16 c.word.ensures (label_short c.args.labels.now c.args.i c.label_len.ensures))

pub returns-else-i-rows : goal.returns-else-i-rows
returns-else-i-rows c = as_told (no_label c.args.labels.now c.args.rows c.args.i (omega arith)) (still 16 _)
