-- A case for each method; each is its function's contract.
use Rattle.inverse_segment.proofs.choice.reweighed.Goals as goal

pub returns-in-AsCrate : goal.returns-in-AsCrate
returns-in-AsCrate c = rw c.in-AsCrate.is c.halved.ensures

pub returns-in-Taught : goal.returns-in-Taught
returns-in-Taught c = rw c.in-Taught.is c.toward.ensures

pub returns-in-Steady : goal.returns-in-Steady
returns-in-Steady c = rw c.in-Steady.is c.toward-in-Steady.ensures
