-- The invariant: the windows of the segments until s stand at the front, and behind them the buffer is as it was lent.
use mathlib.Core.Path.{◌≡◌}
use mathlib.Core.List.{◌++◌}
use Prim.Native.Nat.{◌+◌, ◌*◌}
use lib.ListN.{length, drop}
use Rattle.convert.specs.Output.{windows}
use Rattle.convert.proofs.output.put_windows.Given as goal

abbrev pub invariant-loop-s : goal.invariant-loop-s
invariant-loop-s l = (length l.out ≡ length l.initial.out)
    × (l.out ≡ windows l.m l.step l.stride l.knots l.s ++ drop (4 + l.s * l.stride) l.initial.out)
