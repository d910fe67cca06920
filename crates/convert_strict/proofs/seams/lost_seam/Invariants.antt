-- Before each round `held` is the part of the output from segment s on, and none of the segments up to s loses a double. Assumes nothing.
use mathlib.Core.Path.{◌≡◌}
use Prim.Native.Nat.{◌*◌}
use lib.ListN.{drop}
use Rattle.convert.specs.Output.{windows}
use Rattle.convert.specs.Contract.{list_of}
use Rattle.convert_strict.proofs.Scan.{Searched}
use Rattle.convert_strict.proofs.seams.lost_seam.Given as goal

abbrev pub invariant-loop-s : goal.invariant-loop-s
invariant-loop-s l = (list_of l.held ≡ drop (l.s * l.stride) (windows l.m l.step l.stride l.knots l.s)) × Searched l.m l.step
    l.stride l.allowance l.knots l.last l.s
