-- All but Power start where the one before ends. Assumes nothing.
use Rattle.whole.specs.Held.{held_all, turned_all}
use Rattle.turns_back.proofs.Seams.{others_start}
use Rattle.turns_back.proofs.is_start_no_lower.Goals as goal

pub returns-in_default : goal.returns-in_default
returns-in_default c = others_start c.args.b (turned_all c.args.up (held_all c.args.knots.now)) c.args.s c.in_default.not-Power
