-- The invariant: the pairs of the rows until i stand at the front, and behind them the slice is as it was lent. Assumes nothing.
use mathlib.Core.Path.{◌≡◌}
use mathlib.Core.List.{◌++◌}
use Prim.Native.Nat.{◌*◌}
use lib.ListN.{drop}
use Rattle.whole.specs.Held.{held_all}
use Rattle.monotone.specs.Table.{pairs}
use Rattle.monotone.proofs.fill.Given as goal

abbrev pub invariant-loop-i : goal.invariant-loop-i
invariant-loop-i l = l.out ≡ pairs (held_all l.rows) 0 l.i ++ drop (2 * l.i) l.initial.out
