-- Invariant: the knots passed are written.
use mathlib.Core.Path.{◌≡◌}
use mathlib.Core.List.{map}
use lib.ListN.{length, take}
use Rattle.whole.specs.Held.{held_all}
use Rattle.ask_verdict.specs.Curve.{double_of}
use Rattle.ask_verdict.proofs.fill.Given as goal

abbrev pub invariant-loop-i : goal.invariant-loop-i
invariant-loop-i l = (length l.knots ≡ length l.initial.knots) × (take l.i l.knots ≡ take l.i (map double_of (held_all l.whole)))
