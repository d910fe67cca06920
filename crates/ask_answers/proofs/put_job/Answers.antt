-- A case for each answer.
use Rattle.stopped.specs.declared.Job.TheVariants.{UnderWay}
use mathlib.Core.Path.{ap, ◌∙◌}
use Rattle.std.specs.Prelude.{Ok, Err}
use native.Mathlib.Omega.{arith}
use Rattle.text.proofs.Pens.{within}
use Rattle.ask_answers.specs.Contract.{Placed}
use Rattle.ask_answers.proofs.put_job.Goals as goal

pub put_reached-requires : goal.put_reached-requires
put_reached-requires c = let k : Placed (Ok (UnderWay c.in-Ok-UnderWay.s c.in-Ok-UnderWay.p)) =
    rw (c.in-Ok-UnderWay.is ∙ ap Ok (rw c.in-Ok-UnderWay.is at c.in-Ok-UnderWay.field-0-is)) at c.requires.job in
    record { rows = c.requires.rows; second = k.0; segment = k.1; labels = c.requires.labels; room = c.requires.room }

pub returns-in-Err-Refused : goal.returns-in-Err-Refused
returns-in-Err-Refused c = rw (c.in-Err-Refused.is ∙ ap Err (rw c.in-Err-Refused.is at c.in-Err-Refused.field-0-is))
    (within 86 c.put_refused.ensures (omega arith))

pub returns-in-Err-OffCurve : goal.returns-in-Err-OffCurve
returns-in-Err-OffCurve c = rw (c.in-Err-OffCurve.is ∙ ap Err (rw c.in-Err-OffCurve.is at c.in-Err-OffCurve.field-0-is))
    (within 86 c.put_refused-in-Err-OffCurve.ensures (omega arith))

pub returns-in-Ok-Flat : goal.returns-in-Ok-Flat
returns-in-Ok-Flat c = rw (c.in-Ok-Flat.is ∙ ap Ok (rw c.in-Ok-Flat.is at c.in-Ok-Flat.field-0-is)) (within 86 c.word.ensures (omega arith))

pub returns-in-Ok-Before : goal.returns-in-Ok-Before
returns-in-Ok-Before c = rw (c.in-Ok-Before.is ∙ ap Ok (rw c.in-Ok-Before.is at c.in-Ok-Before.field-0-is)) (within 86 c.put_side.ensures (omega arith))

pub returns-in-Ok-Start : goal.returns-in-Ok-Start
returns-in-Ok-Start c = rw (c.in-Ok-Start.is ∙ ap Ok (rw c.in-Ok-Start.is at c.in-Ok-Start.field-0-is)) (within 86 c.put_side-in-Ok-Start.ensures (omega arith))

pub returns-in-Ok-UnderWay : goal.returns-in-Ok-UnderWay
returns-in-Ok-UnderWay c = rw (c.in-Ok-UnderWay.is ∙ ap Ok (rw c.in-Ok-UnderWay.is at c.in-Ok-UnderWay.field-0-is))
    (within 86 c.put_reached.ensures (omega arith))

pub returns-in-Ok-End : goal.returns-in-Ok-End
returns-in-Ok-End c = rw (c.in-Ok-End.is ∙ ap Ok (rw c.in-Ok-End.is at c.in-Ok-End.field-0-is)) (within 86 c.put_side-in-Ok-End.ensures (omega arith))

pub returns-in-Ok-Beyond : goal.returns-in-Ok-Beyond
returns-in-Ok-Beyond c = rw (c.in-Ok-Beyond.is ∙ ap Ok (rw c.in-Ok-Beyond.is at c.in-Ok-Beyond.field-0-is))
    (within 86 c.put_side-in-Ok-Beyond.ensures (omega arith))
