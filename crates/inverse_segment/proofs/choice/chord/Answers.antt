-- The weighed bracket, the fraction and the place are the definition's, each by its function's contract (`chord_is`).
use Rattle.inverse_segment.specs.Contract.{weighting_of}
use Rattle.inverse_segment.proofs.Choosing.{chord_is}
use Rattle.inverse_segment.proofs.choice.chord.Goals as goal

pub returns : goal.returns
returns c = λ limit i e. chord_is (weighting_of c.args.how) limit i _ _ _ e c.weighed-a.ensures c.fraction.ensures
    c.lerp-x.ensures
