-- The whole part is the callee's contract.
use Rattle.many.proofs.Places.{far}
use Rattle.many.proofs.values.far_spot.Goals as goal

pub returns : goal.returns
returns c = far c.args.k _ c.args.p c.requires.some c.whole_up_to-s.ensures.answer
    c.whole_up_to-s.ensures.most c.double_of.ensures
