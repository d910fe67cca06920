-- The invariant says that the rounds still to come lead from the state at hand to where all rounds lead from the first (`Led`), and what stands for their
-- number: the width of the pace is 16 halved as often as rounds were made.
use mathlib.Core.Path.{◌≡◌}
use Prim.Native.Nat.{◌≤◌, ◌-◌, ◌+◌, ◌*◌, ◌/◌}
use Rattle.spline.specs.Segment.{horner_of}
use Rattle.inverse_segment.specs.Steady.{allowed}
use Rattle.inverse_segment.specs.Method.{rule_of}
use Rattle.inverse_segment.proofs.OneRound.{Led}
use Rattle.inverse_segment.proofs.round.rounds.Given as goal

abbrev pub invariant-loop-i : goal.invariant-loop-i
invariant-loop-i l = (l.most ≡ l.limit) × (l.early ≡ 3 * l.limit / 4) × (l.i ≤ l.limit) × (l.st.repeats ≤ l.i) × (l.count ≤ l.n + l.i) × (l.width ≡ allowed l.i)
    × Led (rule_of l.how) (horner_of l.w) l.y l.precision l.rising l.limit l.initial.st l.n l.i l.st l.count

abbrev pub decreases-loop-i : goal.decreases-loop-i
decreases-loop-i l = l.limit - l.i
