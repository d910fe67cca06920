-- A number that is no basis writes nothing (`no_basis_lem`); for any other the call's contract is carried over to what C sees (`by_basis`).
use Rattle.stopped.specs.Stopped.{stopped_of}
use Rattle.exports_table.specs.Tables.{table_of}
use Rattle.exports_stopped.proofs.Told.{no_basis_lem, by_basis}
use Rattle.exports_stopped.proofs.stopped.Goals as goal

pub returns-in_default : goal.returns-in_default
returns-in_default c = let pair = let args = c.args
    in no_basis_lem args.job.now args.place.now args.whole.now
    (λ b. stopped_of (table_of args.span b) args.y args.knots.now args.check) c.basis_of-c.ensures c.in_default.is in
    record { answer = pair.0; job = pair.1.0; place = pair.1.1.0; whole = pair.1.1.1 }

pub returns : goal.returns
returns c = let pair = let args = c.args in
    by_basis args.job.now args.place.now args.whole.now
    (λ b. stopped_of (table_of args.span b) args.y args.knots.now args.check) c.basis_of-c.ensures
    c.in-Some.is c.stopped.ensures (c.job_told.ensures.answer, (c.job_told.ensures.job, (c.job_told.ensures.place, c.job_told.ensures.whole))) in
    record { answer = pair.0; job = pair.1.0; place = pair.1.1.0; whole = pair.1.1.1 }
