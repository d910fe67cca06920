-- The invariant: the places below i have been told (`Upto`), in at most 44 bytes each.
use Rattle.compare.proofs.Writing.{Upto}
use Rattle.compare.proofs.put_places.Given as goal

abbrev pub invariant-loop-i : goal.invariant-loop-i
invariant-loop-i l = Upto l.initial.pen l.old l.new l.i l.pen l.told
