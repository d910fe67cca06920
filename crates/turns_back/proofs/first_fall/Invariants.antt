-- The invariant: the segments before s rise, so the first that falls from there on is the first of all. Assumes nothing.
use mathlib.Core.Path.{◌≡◌}
use Prim.Native.Nat.{◌-◌}
use Rattle.turns_back.specs.Curve.{falls_from, first_fall}
use Rattle.whole.specs.Held.{held_all, turned_all}
use Rattle.turns_back.proofs.first_fall.Given as goal

abbrev pub invariant-loop-s : goal.invariant-loop-s
invariant-loop-s l = falls_from l.b (turned_all l.up (held_all l.knots)) l.s (l.n - l.s) ≡ first_fall l.b (turned_all l.up (held_all l.knots))
