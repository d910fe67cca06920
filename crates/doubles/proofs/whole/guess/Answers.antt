-- Only the bound 4096 is claimed, so only the wrapped difference needs a fact: the sum is no NaN, and so it has bits.
use Rattle.doubles.proofs.Order.{no_nan}
use Rattle.doubles.proofs.whole.guess.Goals as goal

pub float_to_bits-g : goal.float_to_bits-g
float_to_bits-g c = no_nan _ c.if-g.false
