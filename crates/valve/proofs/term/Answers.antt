-- `valve::term` meets its contract: weight and knot are small, so their product fits. Assumes nothing.
use Rattle.valve.proofs.Sizes.{times_fit, term_is}
use Rattle.valve.proofs.term.Goals as goal

pub times-requires : goal.times-requires
times-requires c = times_fit c.wide.result c.args.k c.args.w c.wide.ensures c.requires.weight c.requires.knot

pub returns : goal.returns
returns c = let pair = term_is c.wide.result c.args.k c.args.w c.wide.ensures c.requires.weight c.requires.knot c.times.result c.times.ensures in
    record { answer = pair.0; small_after = pair.1 }
