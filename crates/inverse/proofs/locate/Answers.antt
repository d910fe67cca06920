-- The ends and the evaluations made for them are those of the rule that was chosen (`by_rule`).
use native.Mathlib.Omega.{arith}
use Rattle.inverse.proofs.Glue.{by_rule}
use Rattle.inverse.proofs.locate.Goals as goal

pub located-requires : goal.located-requires
located-requires c = record {
  segments = c.segments-k.ensures;
  enough = c.requires.enough;
  most = c.requires.most;
  number = c.requires.number;
  range = c.requires.range;
  count = omega (arith, c.evaluations.ensures.most);
}

pub returns : goal.returns
returns c = by_rule c.args.ends c.args.b c.args.knots.now c.segments-k.result c.segments-k.ensures
    c.args.how c.args.y c.args.precision c.args.limit c.evaluations.result
    c.ends_by.result c.ends_by.ensures c.evaluations.ensures.answer c.located.ensures
