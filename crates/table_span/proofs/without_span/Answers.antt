-- A length that fails is told (`by_length`); otherwise 14 is the first row that applies (`by_span`).
use Rattle.table_span.proofs.Spans.{by_length, by_span}
use Rattle.table_span.proofs.without_span.Goals as goal

pub returns-in-Err : goal.returns-in-Err
returns-in-Err c = by_length c.args.b c.args.n _ c.curve_length.ensures c.in-Err.is

pub returns-in-Ok : goal.returns-in-Ok
returns-in-Ok c = by_span c.args.b c.args.n c.curve_length.ensures c.in-Ok.is
