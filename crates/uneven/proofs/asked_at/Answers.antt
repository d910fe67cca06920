-- By the inversion: the place's parameter, or 0.
use mathlib.Core.Path.{sym, ap}
use lib.Ieee.{of_bits}
use Rattle.uneven.specs.Contract.{asked_at}
use Rattle.uneven.proofs.asked_at.Goals as goal

pub returns-in-Err : goal.returns-in-Err
unfolding of_bits
returns-in-Err c = sym (ap asked_at c.in-Err.is)
