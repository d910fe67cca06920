-- Both end values are the cubic at 0 and at 1.
use lib.Ieee.{of_bits}
use Rattle.inverse_segment.proofs.Trying.{ends_are}
use Rattle.inverse_segment.proofs.ends_of.Goals as goal

pub returns : goal.returns
unfolding of_bits
returns c = ends_are c.args.w c.horner-v0.ensures c.horner-v1.ensures
