-- The invariant: no step before i turns back, so the first that does is looked for from i on.
use Rattle.std.proofs.Common.{◌≡◌, drop}
use Rattle.inverse_order.specs.Order.{turns_at}
use Rattle.inverse_order.proofs.first_turn.Given as goal

abbrev pub invariant-loop-i : goal.invariant-loop-i
invariant-loop-i l = turns_at l.rising l.i (drop l.i l.knots) ≡ turns_at l.rising 1 (drop 1 l.knots)
