-- `valve::weights::row` meets its contract: the four entries of the step, by the rule of the table. Assumes nothing.
use mathlib.Core.Path.{refl}
use Rattle.valve.proofs.Rule.{four, table}
use Rattle.valve.proofs.weights.row.Goals as goal

pub returns : goal.returns
returns c = four table tt refl c.args.step c.requires
