-- By recursion on the digits behind the point: the call writes all but the last, and the last one follows. The measure is their number.
use Rattle.text_rounded.proofs.+put_fixed.Given as goal

abbrev pub decreases-put_fixed : goal.decreases-put_fixed
decreases-put_fixed l = l.d
