-- What inversion promises, of its calls. Of a curve: the count, its list, which misses none, its bounds, the places, the values that enclose the target, the
-- ground, and when the target is not on the curve. Assumes nothing.
use Rattle.inverse_segment.specs.Inversion.{Inversion}
use Rattle.std.specs.Prelude.{Ok}
use mathlib.Core.Path.{◌≡◌, sym, subst}
use mathlib.Core.List.{List, []}
use Prim.Native.Nat.{ℕ, ◌+◌, ◌≤◌}
use lib.ListN.{length}
use lib.Ieee.{Float}
use Rattle.error.specs.Refusals.{first}
use Rattle.basis.specs.declared.Basis.{Basis}
use Rattle.spline.specs.Segment.{segment_of}
use Rattle.inverse_segment.specs.Agreed.{Agreed}
use Rattle.inverse_segment.specs.Segment.{enter, outcome_of}
use Rattle.inverse_segment.specs.Answer.{
  count_told,
  answered,
  alone,
  inverted,
  inverse_segment_uses,
  inverse_segment_by,
  segment_evaluations_by,
  default_limit,
  default_precision,
}
use Rattle.inverse_segment.proofs.Call.{Owed, inverse_segment_listed, inverse_segment_unlisted, inverse_segment_owed, inverse_segment_count}
use Rattle.inverse_segment.proofs.spline_inverse_segment_with.Reads as spline_inverse_segment_with
use Rattle.inverse_segment.proofs.spline_inverse_segment.Reads as spline_inverse_segment
use Rattle.inverse_segment.specs.declared.Method.{Method}
use Rattle.inverse_segment.specs.declared.Method.TheVariants.{AsCrate}
use Rattle.inverse_segment.specs.Method.{rule_of}
use Rattle.inverse_segment.proofs.Lawful.{lawful_of}
use Rattle.inverse_segment.proofs.spline_inverse_segment_by.Reads as spline_inverse_segment_by
use Rattle.inverse_order.specs.declared.EndsBy.TheVariants.{Knots}
use Rattle.inverse.proofs.Promises.{Promised, reply_promised}
use Rattle.inverse.proofs.spline_inverse_by.Reads as spline_inverse_by
use Rattle.inverse.proofs.spline_inverse_with.Reads as spline_inverse_with
use Rattle.inverse.proofs.spline_inverse.Reads as spline_inverse
use Rattle.calls.specs.Calls.{Keeps}

-- ---- a curve
-- by either rule of the ends and any method
pub spline_inverse_by_promised : Keeps spline_inverse_by.Learnt
    (λ κs a z e. Promised a.0.ends a.0.method a.1.0 a.1.1.0 a.1.1.1.0.now a.0.check a.0.limit a.0.precision z)
spline_inverse_by_promised κs a z e p =
    reply_promised a.0.ends a.0.method a.1.0 a.1.1.0 a.1.1.1.0.now a.0.check a.0.limit a.0.precision z p

pub spline_inverse_with_promised : Keeps spline_inverse_with.Learnt
    (λ κs a z e. Promised Knots AsCrate a.0 a.1.0 a.1.1.0.now a.1.1.1.0 a.1.1.1.1.0 a.1.1.1.1.1.0 z)
spline_inverse_with_promised κs a z e p =
    reply_promised Knots AsCrate a.0 a.1.0 a.1.1.0.now a.1.1.1.0 a.1.1.1.1.0 a.1.1.1.1.1.0 z p

pub spline_inverse_promised : Keeps spline_inverse.Learnt
    (λ κs a z e. Promised Knots AsCrate a.0 a.1.0 a.1.1.0.now a.1.1.1.0 default_limit default_precision z)
spline_inverse_promised κs a z e p = reply_promised Knots AsCrate a.0 a.1.0 a.1.1.0.now a.1.1.1.0 default_limit default_precision z p

-- ---- one segment
module _ (how : Method) (b : Basis) (y : Float) (cv : List Float) (limit : ℕ) (ε : Float) where
  -- the count is the length of the list of evaluations, which misses none, and at most limit + 2; and where no row applies, what the answer owes
  pub record SegmentPromised (r : Inversion) : Type 0 where
    pub count : count_told r ≡ length (segment_evaluations_by (rule_of how) b y cv limit ε)
    pub unlisted : (h : ℕ → Float → Float) → Agreed (segment_of b cv) h (segment_evaluations_by (rule_of how) b y cv limit ε)
        → r ≡ inverted (first (inverse_segment_uses y cv limit ε)) (answered alone (outcome_of (enter (rule_of how) (h 0) 0 y ε limit [])))
    pub few : count_told r ≤ limit + 2
    pub owed : first (inverse_segment_uses y cv limit ε) ≡ Ok tt → Owed (segment_of b cv 0) y ε limit r

  pub segment_promised : (r : Inversion) → r ≡ inverse_segment_by (rule_of how) b y cv limit ε → SegmentPromised r
  segment_promised r e =
      subst SegmentPromised (sym e)
      (record {
        count = inverse_segment_listed (rule_of how) (lawful_of how) b y cv limit ε;
        unlisted = inverse_segment_unlisted (rule_of how) (lawful_of how) b y cv limit ε;
        few = inverse_segment_count (rule_of how) (lawful_of how) b y cv limit ε;
        owed = inverse_segment_owed (rule_of how) (lawful_of how) b y cv limit ε;
      })

-- by any method
pub spline_inverse_segment_by_promised : Keeps spline_inverse_segment_by.Learnt
    (λ κs a z e. SegmentPromised a.1.1.1.1.1.0 a.0 a.1.0 a.1.1.0.now a.1.1.1.0 a.1.1.1.1.0 z)
spline_inverse_segment_by_promised κs a z e p =
    segment_promised a.1.1.1.1.1.0 a.0 a.1.0 a.1.1.0.now a.1.1.1.0 a.1.1.1.1.0 z p

pub spline_inverse_segment_with_promised : Keeps spline_inverse_segment_with.Learnt
    (λ κs a z e. SegmentPromised AsCrate a.0 a.1.0 a.1.1.0.now a.1.1.1.0 a.1.1.1.1.0 z)
spline_inverse_segment_with_promised κs a z e p = segment_promised AsCrate a.0 a.1.0 a.1.1.0.now a.1.1.1.0 a.1.1.1.1.0 z p

pub spline_inverse_segment_promised : Keeps spline_inverse_segment.Learnt
    (λ κs a z e. SegmentPromised AsCrate a.0 a.1.0 a.1.1.0.now default_limit default_precision z)
spline_inverse_segment_promised κs a z e p = segment_promised AsCrate a.0 a.1.0 a.1.1.0.now default_limit default_precision z p
