-- The places are y before the seven latest (`asked_so`).
use borrow.Author.Rules.{rules}
use Rattle.std.specs.Prelude.{None}
use Rattle.picture_finds.proofs.Targets.{asked_so}
use Rattle.picture_finds.proofs.ask.Goals as goal

pub returns : goal.returns
returns c = asked_so c.args.f.ys (search rules) None c.args.y
