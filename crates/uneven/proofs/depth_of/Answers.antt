-- By the evaluation: a depth with one evaluation more, or what the depths are refused with.
use mathlib.Core.Path.{sym, ap}
use Rattle.uneven.specs.Uneven.{depth_at}
use Rattle.uneven.proofs.depth_of.Goals as goal

pub returns-in-Ok : goal.returns-in-Ok
returns-in-Ok c = sym (ap (depth_at c.args.p) c.in-Ok.is)

pub returns-in-Err : goal.returns-in-Err
returns-in-Err c = sym (ap (depth_at c.args.p) c.in-Err.is)
