-- A number that is no basis writes nothing; for any other the call's contract is carried over to what C sees (proofs/Handing.antt).
use lib.ListN.{length}
use Rattle.table.specs.Calls.{table_strict_of}
use Rattle.exports_reply.specs.Replies.{chosen_of}
use Rattle.exports_table.specs.Tables.{table_of}
use Rattle.exports_table.proofs.Handing.{left_unknown, left_unknown_to, left}
use Rattle.exports_table.proofs.table_convert_spline_strict.Goals as goal

pub returns-in_default : goal.returns-in_default
returns-in_default c = let pair = let args = c.args in
    left_unknown args.span (λ f t. table_strict_of (table_of args.span f) t args.knots.now args.allowance (length args.out.now))
    (chosen_of args.from) (chosen_of args.to) args.handed.now args.written.now args.out.now c.basis_of-c.ensures
    c.in_default.is in record { answer = pair.0; span = pair.1.0; length = pair.1.1.0; buffer = pair.1.1.1 }

pub returns-in_default-d : goal.returns-in_default-d
returns-in_default-d c = let pair = let args = c.args in
    left_unknown_to args.span (λ f t. table_strict_of (table_of args.span f) t args.knots.now args.allowance (length args.out.now))
    (chosen_of args.from) (chosen_of args.to) args.handed.now args.written.now args.out.now
    c.basis_of-c.ensures c.in-Some.is
    c.basis_of-d.ensures c.in_default-d.is in record { answer = pair.0; span = pair.1.0; length = pair.1.1.0; buffer = pair.1.1.1 }

pub returns : goal.returns
returns c = let pair = let args =
    c.args in
    let known = c.in-Some.is in
    let known-to = c.in-Some-d.is in
    left args.span (λ f t. table_strict_of (table_of args.span f) t args.knots.now args.allowance (length args.out.now))
    (chosen_of args.from) (chosen_of args.to) args.handed.now args.written.now args.out.now c.basis_of-c.ensures known c.basis_of-d.ensures known-to
    c.table_convert_spline_strict.ensures.answer
    c.table_convert_spline_strict.ensures.buffer c.handed_told.ensures.answer c.handed_told.ensures.handed c.handed_told.ensures.written in
    record { answer = pair.0; span = pair.1.0; length = pair.1.1.0; buffer = pair.1.1.1 }
