-- A place gets the second of its parameter; any other answer is handed on. The place is under way.
use mathlib.Core.Path.{refl, ◌∙◌}
use Rattle.error.proofs.Exits.{exit}
use Rattle.table_span.proofs.Spans.{good_least}
use Rattle.stopped.proofs.found.Goals as goal

pub second-requires : goal.second-requires
second-requires c = (good_least c.args.span c.requires).1

pub returns-in_err-p : goal.returns-in_err-p
returns-in_err-p c = exit _ _ c.from_residual.ensures.1 ∙ rw c.in_err-p.was refl

pub returns : goal.returns
returns c = rw (c.in_ok-p.was, c.second.ensures.answer) refl
