-- The steady method ends in time, of the calls with options: where N rounds are enough for the precision, the limit is never told as spent if it is above N,
-- and
-- the count is bounded as if it were N. N is 39 for the default precision, p + 6 for one of 2^-p at least, and 59 for any of 2^-50 at least. Assumes nothing.
use Rattle.inverse_segment.specs.Inversion.{Inversion}
use mathlib.Core.Path.{◌≡◌, sym, ap, subst, ◌∙◌}
use mathlib.Core.Bool.{Bool}
use mathlib.Core.List.{List}
use Prim.Native.Nat.{ℕ, ◌+◌, ◌≤◌}
use lib.Dec.{T}
use lib.Ieee.{Float, le}
use Rattle.basis.specs.declared.Basis.{Basis}
use Rattle.inverse_segment.specs.Answer.{inverse_segment_by, default_precision}
use Rattle.inverse_segment.specs.declared.Method.{Method}
use Rattle.inverse_segment.specs.declared.Method.TheVariants.{Steady}
use Rattle.inverse_segment.specs.Method.{rule_of}
use Rattle.inverse_segment.proofs.Ending.{Enough}
use Rattle.inverse_segment.proofs.Times.{two_to_minus, default_enough, power_enough, any_enough}
use Rattle.inverse_segment.proofs.Timely.{SegmentWithin, segment_timely}
use Rattle.inverse_segment.proofs.spline_inverse_segment_by.Reads as spline_inverse_segment_by
use Rattle.inverse_order.specs.declared.EndsBy.{EndsBy}
use Rattle.inverse.specs.Inverse.{inverse_by}
use Rattle.inverse.proofs.Timely.{Within, timely}
use Rattle.inverse.proofs.spline_inverse_by.Reads as spline_inverse_by
use Rattle.calls.specs.Calls.{Keeps}

-- ---- a curve
in_time : (m : EndsBy) (how : Method) (b : Basis) (y : Float) (ks : List Float) (check : Bool) (limit : ℕ) (ε : Float) (N : ℕ) (r : Inversion)
    → r ≡ inverse_by m how b y ks check limit ε → how ≡ Steady → Enough ε N → Within m b ks limit N r
in_time m how b y ks check limit ε N r p s E =
    subst (Within m b ks limit N) (sym (p ∙ ap (λ (h : Method). inverse_by m h b y ks check limit ε) s)) (timely m b ks limit y check ε N E)

-- with the default precision
pub spline_inverse_by_timely : Keeps spline_inverse_by.Learnt
    (λ κs a z e. a.0.method ≡ Steady → a.0.precision ≡ default_precision → Within a.0.ends a.1.0 a.1.1.1.0.now a.0.limit 39 z)
spline_inverse_by_timely κs a z e p s d =
    in_time a.0.ends a.0.method a.1.0 a.1.1.0 a.1.1.1.0.now a.0.check a.0.limit a.0.precision 39 z p s
    (subst (λ (ε : Float). Enough ε 39) (sym d) default_enough)

-- with one of 2^-p at least, p up to 49
pub spline_inverse_by_power_timely : Keeps spline_inverse_by.Learnt
    (λ κs a z e. a.0.method ≡ Steady → (p : ℕ) → p ≤ 49 → T (le (two_to_minus p) a.0.precision)
    → Within a.0.ends a.1.0 a.1.1.1.0.now a.0.limit (p + 6) z)
spline_inverse_by_power_timely κs a z e q s p l o =
    in_time a.0.ends a.0.method a.1.0 a.1.1.0 a.1.1.1.0.now a.0.check a.0.limit a.0.precision (p + 6) z q s
    (power_enough a.0.precision p l o)

-- with any of 2^-50 at least
pub spline_inverse_by_any_timely : Keeps spline_inverse_by.Learnt
    (λ κs a z e. a.0.method ≡ Steady → T (le (two_to_minus 50) a.0.precision) → Within a.0.ends a.1.0 a.1.1.1.0.now a.0.limit 59 z)
spline_inverse_by_any_timely κs a z e p s o =
    in_time a.0.ends a.0.method a.1.0 a.1.1.0 a.1.1.1.0.now a.0.check a.0.limit a.0.precision 59 z p s
    (any_enough a.0.precision o)

-- ---- one segment
segment_in_time : (how : Method) (b : Basis) (y : Float) (cv : List Float) (limit : ℕ) (ε : Float) (N : ℕ) (r : Inversion)
    → r ≡ inverse_segment_by (rule_of how) b y cv limit ε → how ≡ Steady → Enough ε N → SegmentWithin limit N r
segment_in_time how b y cv limit ε N r p s E =
    subst (SegmentWithin limit N) (sym (p ∙ ap (λ (h : Method). inverse_segment_by (rule_of h) b y cv limit ε) s)) (segment_timely limit b y cv ε N E)

pub spline_inverse_segment_by_timely : Keeps spline_inverse_segment_by.Learnt
    (λ κs a z e. a.1.1.1.1.1.0 ≡ Steady → a.1.1.1.1.0 ≡ default_precision → SegmentWithin a.1.1.1.0 39 z)
spline_inverse_segment_by_timely κs a z e p s d =
    segment_in_time a.1.1.1.1.1.0 a.0 a.1.0 a.1.1.0.now a.1.1.1.0 a.1.1.1.1.0 39 z p s
    (subst (λ (ε : Float). Enough ε 39) (sym d) default_enough)

pub spline_inverse_segment_by_power_timely : Keeps spline_inverse_segment_by.Learnt
    (λ κs a z e. a.1.1.1.1.1.0 ≡ Steady → (p : ℕ) → p ≤ 49 → T (le (two_to_minus p) a.1.1.1.1.0) → SegmentWithin a.1.1.1.0 (p + 6) z)
spline_inverse_segment_by_power_timely κs a z e q s p l o =
    segment_in_time a.1.1.1.1.1.0 a.0 a.1.0 a.1.1.0.now a.1.1.1.0 a.1.1.1.1.0 (p + 6) z q s
    (power_enough a.1.1.1.1.0 p l o)

pub spline_inverse_segment_by_any_timely : Keeps spline_inverse_segment_by.Learnt
    (λ κs a z e. a.1.1.1.1.1.0 ≡ Steady → T (le (two_to_minus 50) a.1.1.1.1.0) → SegmentWithin a.1.1.1.0 59 z)
spline_inverse_segment_by_any_timely κs a z e p s o =
    segment_in_time a.1.1.1.1.1.0 a.0 a.1.0 a.1.1.0.now a.1.1.1.0 a.1.1.1.1.0 59 z p s (any_enough a.1.1.1.1.0 o)
