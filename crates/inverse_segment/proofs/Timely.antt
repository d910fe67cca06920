-- The inversion of one segment by the steady method ends in time: where N rounds are enough for the precision and the limit is above N, the ground `spent` is
-- never told, and whatever the limit, at most N + 2 evaluations are made. Assumes nothing.
use Rattle.inverse_segment.specs.Inversion.{Inversion}
use Rattle.inverse_segment.specs.declared.Miss.TheVariants.{Refused, OffCurve}
use Rattle.std.specs.Prelude.{Ok, Err}
use mathlib.Core.List.{List, []}
use mathlib.Core.Bool.{not}
use Prim.Native.Nat.{ℕ, ◌+◌, ◌≤◌, ◌<◌}
use native.Mathlib.Omega.{arith}
use lib.Dec.{T}
use lib.ListN.{length}
use lib.Ieee.{Float, lt}
use Rattle.error.specs.Refusals.{first, Verdict}
use Rattle.basis.specs.declared.Basis.{Basis}
use Rattle.doubles.specs.Numbers.{nought, one}
use Rattle.doubles.proofs.Tests.{branch}
use Rattle.spline.specs.Segment.{segment_of}
use Rattle.inverse_segment.specs.Evaluations.{Evaluations}
use Rattle.inverse_segment.specs.Round.{Rule}
use Rattle.inverse_segment.specs.Rounds.{Arrival}
use Rattle.inverse_segment.specs.Segment.{encloses, near, entered, Entry, enter, outcome_of}
use Rattle.inverse_segment.specs.Answer.{count_told, answered, alone, inverted, inverse_segment_uses, inverse_segment_by}
use Rattle.inverse_segment.proofs.Ends.{both}
use Rattle.inverse_segment.proofs.Rules.{Lawful}
use Rattle.inverse_segment.specs.Steady.{secant, paced, steady}
use Rattle.inverse_segment.proofs.Lawful.{secant_lawful}
use Rattle.inverse_segment.proofs.Ending.{is_spent, Enough, paced_ends}

-- ---- a segment that is entered: any lawful rule kept to the pace
-- at most N evaluations after `base`; and not spent, where the limit is above N
abbrev pub InTime : ℕ → ℕ → ℕ → Arrival → Type 0
InTime limit N base p = (length p.made ≤ base + N) × (N < limit → T (not (is_spent p.ground)))

module _ (R : Rule) (lawful : Lawful R) (y ε : Float) (limit N : ℕ) (E : Enough ε N) where
  pub entered_in_time : (f : Float → Float) (s : ℕ) (ev : Evaluations) (v0 v1 : Float) → InTime limit N (length ev) (entered (paced R) f s y ε limit v0 v1 ev)
  unfolding entered
  entered_in_time f s ev v0 v1 =
      branch (InTime limit N (length ev)) (near y v0 ε) (λ _. (omega arith, λ _. tt))
      (λ _. branch (InTime limit N (length ev)) (near y v1 ε) (λ _. (omega arith, λ _. tt)) (λ _. paced_ends R lawful f s y ε (lt v0 v1) limit v0 v1 ev N E))

-- ---- one segment's call
abbrev pub NeverSpent : Inversion → Type 0
NeverSpent (Ok p) = T (not (is_spent p.ground))
NeverSpent (Err (OffCurve n)) = Unit
NeverSpent (Err (Refused r)) = Unit

module _ (limit : ℕ) where
  -- not spent, where the limit is above N; and at most N + 2 evaluations
  abbrev pub SegmentWithin : ℕ → Inversion → Type 0
  SegmentWithin N r = (N < limit → NeverSpent r) × (count_told r ≤ N + 2)

  module _ (b : Basis) (y : Float) (cv : List Float) (ε : Float) (N : ℕ) (E : Enough ε N) where
    tried : SegmentWithin N (answered alone (outcome_of (enter steady (segment_of b cv 0) 0 y ε limit [])))
    unfolding enter
    tried =
        let f = segment_of b cv 0 in
        let q = entered_in_time secant secant_lawful y ε limit N E f 0 (both 0 []) (f nought) (f one) in
        branch (λ (e : Entry). SegmentWithin N (answered alone (outcome_of e))) (encloses (f nought) (f one) y) (λ _. (q.1, omega (arith, q.0)))
        (λ _. (λ _. tt, omega arith))

    pub segment_timely : SegmentWithin N (inverse_segment_by steady b y cv limit ε)
    unfolding inverse_segment_by
    segment_timely = go (first (inverse_segment_uses y cv limit ε))
      where
        go : (w : Verdict) → SegmentWithin N (inverted w (answered alone (outcome_of (enter steady (segment_of b cv 0) 0 y ε limit []))))
        go (Ok _) = tried
        go (Err r) = (λ _. tt, omega arith)
