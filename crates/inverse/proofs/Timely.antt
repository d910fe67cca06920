-- The call by the steady method ends in time: where N rounds are enough for the precision and the limit is above N, the ground `spent` is never told, and
-- whatever
-- the limit, the count is bounded as if it were N. Assumes nothing.
use Rattle.inverse_segment.specs.Inversion.{Inversion}
use mathlib.Core.List.{List}
use mathlib.Core.Bool.{Bool}
use Prim.Native.Nat.{ℕ, ◌+◌, ◌≤◌, ◌<◌}
use native.Mathlib.Nat.{le_trans}
use native.Mathlib.Omega.{arith}
use lib.ListN.{length}
use lib.Ieee.{Float}
use Rattle.basis.specs.declared.Basis.{Basis}
use Rattle.basis.specs.Basis.{segments_of}
use Rattle.spline.specs.Segment.{segment_of}
use Rattle.inverse_segment.specs.Answer.{count_told}
use Rattle.inverse_search.specs.Bound.{bound_of}
use Rattle.inverse_segment.specs.declared.Method.TheVariants.{Steady}
use Rattle.inverse_segment.specs.Steady.{secant}
use Rattle.inverse_segment.proofs.Lawful.{secant_lawful}
use Rattle.inverse_segment.proofs.Ending.{Enough}
use Rattle.inverse_segment.proofs.Timely.{NeverSpent}
use Rattle.inverse_order.specs.declared.EndsBy.{EndsBy}
use Rattle.inverse.specs.EndRule.{end_rule_of, own}
use Rattle.inverse.specs.Inverse.{inverse_by}
use Rattle.inverse.proofs.Glue.{rule_made}
use Rattle.inverse.proofs.Pace.{located_timely}
use Rattle.inverse.proofs.Promises as kept

module _ (m : EndsBy) (b : Basis) (ks : List Float) (limit : ℕ) where
  -- not spent, where the limit is above N; and at most N + 24 evaluations, or N + 2b + 4, and the two of the curve's own ends where the end rule goes by them
  abbrev pub Within : ℕ → Inversion → Type 0
  Within N r = (N < limit → NeverSpent r) × (count_told r ≤ own m + bound_of (segments_of b (length ks)) N)

  pub timely : (y : Float) (check : Bool) (ε : Float) (N : ℕ) → Enough ε N → Within N (inverse_by m Steady b y ks check limit ε)
  timely y check ε N E =
      kept.by_verdict m Steady b y ks check limit ε (Within N) (λ r. (λ _. tt, omega arith))
      (λ a.
      let rule = end_rule_of m b ks (segment_of b ks) in
      let r =
      located_timely secant secant_lawful y ε limit N E (segment_of b ks) (segments_of b (length ks)) (kept.some m Steady b y ks check limit ε)
      (kept.fits m Steady b y ks check limit ε a) (kept.numbers m Steady b y ks check limit ε a) rule.ends rule.made in
      (r.0, le_trans r.1 (omega (arith, rule_made m b ks (segment_of b ks)))))
