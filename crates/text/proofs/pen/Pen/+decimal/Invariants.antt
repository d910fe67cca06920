-- By recursion on the number of digits allowed, which is the measure.
use Rattle.text.proofs.pen.Pen.+decimal.Given as goal

abbrev pub decreases-decimal : goal.decreases-decimal
decreases-decimal l = l.k
