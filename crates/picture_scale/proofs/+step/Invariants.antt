-- By recursion on k, which falls.
use Rattle.picture_scale.proofs.+step.Given as goal

abbrev pub decreases-step : goal.decreases-step
decreases-step l = l.k
