-- A tab, and the label.
use Rattle.std.proofs.Common.{arith}
use Rattle.text.proofs.Pens.{within, chained}
use Rattle.ask_verdict.proofs.Texts.{as_told, still}
use Rattle.std.proofs.Common.{ap, ℕ, [], get_or, mul-le-mul}
use Rattle.ask_sheet.specs.Contract.{labels_to}
use Rattle.ask_answers.proofs.Answers.{row_is}
use Rattle.ask_answers.proofs.put_start.Goals as goal

pub overflow_mul-i : goal.overflow_mul-i
overflow_mul-i c = omega (arith, mul-le-mul c.requires.segment c.row_step.ensures.most)

pub overflow_add-i : goal.overflow_add-i
overflow_add-i c = omega (arith, mul-le-mul c.requires.segment c.row_step.ensures.most, c.first_row.ensures.most)

pub returns : goal.returns
returns c = chained c.byte.ensures (as_told (ap (λ (i : ℕ). get_or (labels_to c.args.labels.now c.args.rows) i [])
    (row_is c.args.k c.args.s c.first_row.ensures.answer c.row_step.ensures.answer)) c.put_label.ensures)
