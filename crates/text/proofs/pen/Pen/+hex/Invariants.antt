-- By recursion on the number of digits, which is the measure.
use Rattle.text.proofs.pen.Pen.+hex.Given as goal

abbrev pub decreases-hex : goal.decreases-hex
decreases-hex l = l.k
