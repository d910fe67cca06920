-- Where the bracket is wider than the pace allows, the midpoint (`paced_middle`); otherwise the chord's place (`paced_chord`).
use mathlib.Core.Path.{refl}
use lib.Ieee.{of_bits}
use Rattle.inverse_segment.proofs.Choosing.{paced_middle, paced_chord}
use Rattle.inverse_segment.proofs.choice.paced.Goals as goal

pub returns-then-width-b : goal.returns-then-width-b
unfolding of_bits
returns-then-width-b c = λ limit i e. paced_middle limit i _ _ _ e _ c.if-width-b.true c.lerp.ensures

pub returns : goal.returns
unfolding of_bits
returns c = λ limit i e. paced_chord limit i _ _ _ e _ _ _ _ c.if-width-b.false
    c.weighed-a.ensures refl c.lerp-2.ensures c.inner.ensures
