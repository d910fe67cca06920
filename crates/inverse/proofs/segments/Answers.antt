-- Fewer than 4 knots count as 4 do. Assumes nothing.
use mathlib.Core.Path.{◌∙◌}
use Rattle.inverse.proofs.Most.{short_count}
use Rattle.inverse.proofs.segments.Goals as goal

pub returns-then-n-lt4 : goal.returns-then-n-lt4
returns-then-n-lt4 c = c.segments.ensures ∙ short_count c.args.b c.args.n c.if-n-lt4.true
