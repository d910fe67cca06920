-- By recursion on the bytes left: the first field, and behind its tab the others. The measure is their number.
use lib.ListN.{length}
use Rattle.decimals.proofs.+put_fields.Given as goal

abbrev pub decreases-put_fields : goal.decreases-put_fields
decreases-put_fields l = length l.s.now
