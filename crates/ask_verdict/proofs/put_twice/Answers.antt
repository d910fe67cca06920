-- An earlier row with the same label, or none.
use Rattle.std.proofs.Common.{arith}
use Rattle.text.proofs.Pens.{within, chained}
use Rattle.ask_sheet.specs.Contract.{labels_to}
use Rattle.ask_verdict.proofs.Texts.{as_told, still}
use Rattle.ask_verdict.proofs.Labels.{twice_text, once_text}
use Rattle.ask_verdict.proofs.put_twice.Goals as goal

pub returns-then-j-i : goal.returns-then-j-i
returns-then-j-i c = as_told (twice_text (labels_to c.args.labels.now c.args.n) c.args.i c.first_same-j.result
    c.first_same-j.ensures.first c.if-j-i.true) (within 18 (chained c.word.ensures (chained c.decimal.ensures c.put_number.ensures)) (omega arith))

pub returns-else-j-i : goal.returns-else-j-i
returns-else-j-i c = as_told (once_text (labels_to c.args.labels.now c.args.n) c.args.i c.first_same-j.result
    c.first_same-j.ensures.first c.if-j-i.false) (still 18 _)
