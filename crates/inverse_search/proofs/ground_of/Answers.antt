-- An arm knows its number, and the rest that it is none of the four.
use mathlib.Core.Path.{sym, ap}
use Rattle.inverse_search.specs.Contract.{ground_of}
use Rattle.inverse_search.proofs.ground_of.Goals as goal

pub returns-in-1 : goal.returns-in-1
returns-in-1 c = ap ground_of (sym c.in-1.is)

pub returns-in-2 : goal.returns-in-2
returns-in-2 c = ap ground_of (sym c.in-2.is)

pub returns-in-3 : goal.returns-in-3
returns-in-3 c = ap ground_of (sym c.in-3.is)

pub returns-in-4 : goal.returns-in-4
returns-in-4 c = ap ground_of (sym c.in-4.is)
