-- By recursion on the open segments, which fall at each step. A step that goes on has made two evaluations and does what the definition
-- does with one halving less.
use Rattle.inverse_search.proofs.+halve.Given as goal

abbrev pub decreases-halve : goal.decreases-halve
decreases-halve l = l.wide
