-- A parameter in scale, moved and added to a large one, is no NaN, and so it has bits.
use lib.Ieee.{le, neg, of_bits}
use Rattle.many.proofs.Places.{guess_number}
use Rattle.many.proofs.values.guess.Goals as goal

pub float_to_bits-g : goal.float_to_bits-g
unfolding le neg of_bits
float_to_bits-g c = guess_number c.args.k c.args.p _ _ c.requires.segments c.requires.scale tt tt tt tt
