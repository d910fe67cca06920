-- Up to 12 segments: the first in order whose ends enclose the target is the one entered. Assumes nothing.
use Rattle.inverse_segment.specs.Inversion.{Inversion}
use Rattle.std.specs.Prelude.{Ok}
use mathlib.Core.Path.{◌≡◌, ap}
use mathlib.Core.Bool.{Bool}
use mathlib.Core.List.{List}
use Prim.Native.Nat.{ℕ, ◌≤◌, ◌<◌}
use lib.Dec.{T}
use lib.ListN.{length}
use lib.Ieee.{Float}
use lib.Ieee.Bits.{is_false}
use Rattle.basis.specs.declared.Basis.{Basis}
use Rattle.basis.specs.Basis.{segments_of}
use Rattle.spline.specs.Segment.{segment_of}
use Rattle.inverse_segment.specs.declared.Place.{Place}
use Rattle.inverse_segment.specs.Rounds.{Arrival}
use Rattle.inverse_segment.specs.Segment.{Outcome, placed}
use Rattle.inverse_segment.specs.Answer.{answered}
use Rattle.inverse_search.proofs.Found.{Holds, Nothing}
use Rattle.inverse_search.proofs.First.{first_entered}
use Rattle.inverse_search.specs.Trial.{trial}
use Rattle.inverse_segment.specs.declared.Method.{Method}
use Rattle.inverse_segment.specs.Method.{rule_of}
use Rattle.inverse_segment.proofs.Lawful.{lawful_of}
use Rattle.inverse_search.proofs.Sound.{SoundIn, trial_tried}
use Rattle.inverse_order.specs.declared.EndsBy.{EndsBy}
use Rattle.inverse.specs.EndRule.{at_low, at_high, end_rule_of}
use Rattle.inverse.specs.Curve.{parameter_of, located}
use Rattle.inverse.specs.Inverse.{inverse_by}
use Rattle.inverse.proofs.Curve.{curve_numbers}
use Rattle.inverse.proofs.Verdicts.{admitted}
use Rattle.inverse.proofs.Promises.{Pass, Quiet}

module _ (m : EndsBy) (how : Method) (b : Basis) (y : Float) (ks : List Float) (check : Bool) (limit : ℕ) (ε : Float) where
  abbrev k : ℕ
  k = segments_of b (length ks)

  -- the answer is a place in segment s
  abbrev pub In : ℕ → Inversion → Type 0
  In s r = (p : Place) × (r ≡ Ok p) × (p.segment ≡ s)

  placed_in : (s : ℕ) (o : Outcome) (p : Arrival) → o ≡ placed p → p.segment ≡ s → In s (answered (parameter_of k) o)
  placed_in s o p e q = (_, ap (answered (parameter_of k)) e, q)

  located_first : Pass m how b y ks check limit ε → Quiet m how b y ks check limit ε → k ≤ 12 → (s : ℕ) → s < k → T (Holds (segment_of b ks) y k s)
      → Nothing (segment_of b ks) y k 0 s
      → In s (located (rule_of how) (end_rule_of m b ks (segment_of b ks)).ends (end_rule_of m b ks (segment_of b ks)).made (segment_of b ks) k y ε limit)
  unfolding located
  located_first v q f s l H N =
      let a = admitted b y ks check limit ε v in
      let g = segment_of b ks in
      let u =
      first_entered g y k (SoundIn g y ε limit) (trial (rule_of how) g y ε limit)
      (trial_tried g y ε limit (rule_of how) (lawful_of how) k (curve_numbers b y ks a.long a.number a.in_range_lem))
      (end_rule_of m b ks (segment_of b ks)).ends.rising s (end_rule_of m b ks (segment_of b ks)).made f l H N in
      simp (is_false (at_low (end_rule_of m b ks (segment_of b ks)).ends y) q.0, is_false (at_high (end_rule_of m b ks (segment_of b ks)).ends y) q.1)
      (placed_in s _ u.0 u.1 u.2.1)

  -- so of the call
  pub inverse_first_entered : Pass m how b y ks check limit ε → Quiet m how b y ks check limit ε → k ≤ 12 → (s : ℕ) → s < k
      → T (Holds (segment_of b ks) y k s) → Nothing (segment_of b ks) y k 0 s → In s (inverse_by m how b y ks check limit ε)
  unfolding inverse_by
  inverse_first_entered v q f s l H N = rw v (located_first v q f s l H N)
