-- What the call answers, as text.
use mathlib.Core.Path.{ap, ◌∙◌}
use native.Mathlib.Omega.{arith}
use mathlib.Core.Bool.{false}
use Rattle.stopped.specs.Stopped.{stopped_of}
use Rattle.table_span.specs.declared.Table.{Table}
use Rattle.ask_sheet.specs.Contract.{labels_to}
use Rattle.ask_verdict.proofs.Texts.{as_told}
use Rattle.ask_answers.specs.Answers.{job_text}
use Rattle.ask_answers.proofs.Answers.{table_short}
use Rattle.ask_answers.proofs.Jobs.{placed}
use Rattle.ask_answers.proofs.put_find.Goals as goal

pub put_job-requires : goal.put_job-requires
put_job-requires c = record {
  rows = c.requires.rows;
  job = placed c.table_by.result c.args.y c.args.knots.now false
      (table_short c.args.k c.args.span c.requires.span c.table_by.ensures) c.requires.few
      c.stopped-j.result c.stopped-j.ensures;
  labels = c.requires.labels;
  room = omega (arith, c.requires.room);
}

pub returns : goal.returns
returns c = as_told (ap (job_text c.args.k (labels_to c.args.labels.now c.args.rows) c.args.span c.args.y)
    (c.stopped-j.ensures ∙ ap (λ (t : Table). stopped_of t c.args.y c.args.knots.now false)
    c.table_by.ensures)) c.put_job.ensures
