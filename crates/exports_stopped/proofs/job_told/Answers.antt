-- In each arm the answer is that arm's case, and what is left is that case's (`left`); a place is left as an inversion of the table leaves it.
use Rattle.std.specs.Prelude.{Err, Ok}
use mathlib.Core.Path.{refl, ap, ◌∙◌}
use Rattle.exports_stopped.proofs.Told.{left}
use Rattle.exports_stopped.proofs.job_told.Goals as goal

pub returns-in-Err-Refused : goal.returns-in-Err-Refused
returns-in-Err-Refused c = let pair = let args = c.args
    in left args.job.now args.place.now args.whole.now (c.in-Err-Refused.is ∙ ap Err (rw c.in-Err-Refused.is at c.in-Err-Refused.field-0-is))
    (c.reply.ensures, (refl, (refl, refl))) in
    record { answer = pair.0; job = pair.1.0; place = pair.1.1.0; whole = pair.1.1.1 }

pub returns-in-Err-OffCurve : goal.returns-in-Err-OffCurve
returns-in-Err-OffCurve c = let pair = let args = c.args in
    left args.job.now args.place.now args.whole.now (c.in-Err-OffCurve.is ∙ ap Err (rw c.in-Err-OffCurve.is at c.in-Err-OffCurve.field-0-is)) (
      c.timed_told.ensures.answer,
      (refl, (c.timed_told.ensures.place, c.timed_told.ensures.whole)),
    ) in
    record { answer = pair.0; job = pair.1.0; place = pair.1.1.0; whole = pair.1.1.1 }

pub returns-in-Ok-UnderWay : goal.returns-in-Ok-UnderWay
returns-in-Ok-UnderWay c = let pair = let args = c.args in
    left args.job.now args.place.now args.whole.now (c.in-Ok-UnderWay.is ∙ ap Ok (rw c.in-Ok-UnderWay.is at c.in-Ok-UnderWay.field-0-is)) (
      c.timed_told-in-Ok-UnderWay.ensures.answer,
      (refl, (c.timed_told-in-Ok-UnderWay.ensures.place, c.timed_told-in-Ok-UnderWay.ensures.whole)),
    ) in
    record { answer = pair.0; job = pair.1.0; place = pair.1.1.0; whole = pair.1.1.1 }

pub returns-in-Ok-Flat : goal.returns-in-Ok-Flat
returns-in-Ok-Flat c = let pair = let args = c.args
    in left args.job.now args.place.now args.whole.now (c.in-Ok-Flat.is ∙ ap Ok (rw c.in-Ok-Flat.is at c.in-Ok-Flat.field-0-is)) (refl, (refl, (refl, refl))) in
    record { answer = pair.0; job = pair.1.0; place = pair.1.1.0; whole = pair.1.1.1 }

pub returns-in-Ok-Before : goal.returns-in-Ok-Before
returns-in-Ok-Before c = let pair = let args = c.args
    in left args.job.now args.place.now args.whole.now (c.in-Ok-Before.is ∙ ap Ok (rw c.in-Ok-Before.is at c.in-Ok-Before.field-0-is))
    (refl, (refl, (refl, refl))) in
    record { answer = pair.0; job = pair.1.0; place = pair.1.1.0; whole = pair.1.1.1 }

pub returns-in-Ok-Start : goal.returns-in-Ok-Start
returns-in-Ok-Start c = let pair = let args = c.args
    in left args.job.now args.place.now args.whole.now (c.in-Ok-Start.is ∙ ap Ok (rw c.in-Ok-Start.is at c.in-Ok-Start.field-0-is)) (
      refl,
      (refl, (refl, refl)),
    ) in
    record { answer = pair.0; job = pair.1.0; place = pair.1.1.0; whole = pair.1.1.1 }

pub returns-in-Ok-End : goal.returns-in-Ok-End
returns-in-Ok-End c = let pair = let args = c.args
    in left args.job.now args.place.now args.whole.now (c.in-Ok-End.is ∙ ap Ok (rw c.in-Ok-End.is at c.in-Ok-End.field-0-is)) (refl, (refl, (refl, refl))) in
    record { answer = pair.0; job = pair.1.0; place = pair.1.1.0; whole = pair.1.1.1 }

pub returns-in-Ok-Beyond : goal.returns-in-Ok-Beyond
returns-in-Ok-Beyond c = let pair = let args = c.args
    in left args.job.now args.place.now args.whole.now (c.in-Ok-Beyond.is ∙ ap Ok (rw c.in-Ok-Beyond.is at c.in-Ok-Beyond.field-0-is))
    (refl, (refl, (refl, refl))) in
    record { answer = pair.0; job = pair.1.0; place = pair.1.1.0; whole = pair.1.1.1 }
