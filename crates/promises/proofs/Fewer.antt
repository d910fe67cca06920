-- Beside the crate, which evaluates an entered segment's ends twice: the same refusal, or the same place by the same ground, with exactly two evaluations fewer
-- where a segment was entered, and with the same count elsewhere. Of the calls. Assumes nothing.
use Rattle.inverse_segment.specs.Inversion.{Inversion}
use mathlib.Core.Path.{◌≡◌, sym, subst}
use mathlib.Core.Bool.{Bool}
use mathlib.Core.List.{List}
use Prim.Native.Nat.{ℕ}
use lib.Ieee.{Float}
use Rattle.basis.specs.declared.Basis.{Basis}
use Rattle.inverse_segment.specs.Answer.{default_limit, default_precision}
use Rattle.inverse_segment.specs.declared.Method.{Method}
use Rattle.inverse_segment.specs.declared.Method.TheVariants.{AsCrate}
use Rattle.inverse_order.specs.declared.EndsBy.{EndsBy}
use Rattle.inverse_order.specs.declared.EndsBy.TheVariants.{Knots}
use Rattle.inverse.specs.Inverse.{inverse_by}
use Rattle.inverse.proofs.Fewer.{Fewer, twice, inverse_fewer}
use Rattle.inverse.proofs.spline_inverse_by.Reads as spline_inverse_by
use Rattle.inverse.proofs.spline_inverse_with.Reads as spline_inverse_with
use Rattle.inverse.proofs.spline_inverse.Reads as spline_inverse
use Rattle.calls.specs.Calls.{Keeps}

pub reply_fewer : (m : EndsBy) (how : Method) (b : Basis) (y : Float) (ks : List Float) (check : Bool) (limit : ℕ) (ε : Float) (r : Inversion)
    → r ≡ inverse_by m how b y ks check limit ε → Fewer 2 r (twice m how b y ks check limit ε)
reply_fewer m how b y ks check limit ε r e =
    subst (λ (z : Inversion). Fewer 2 z (twice m how b y ks check limit ε)) (sym e) (inverse_fewer m how b y ks check limit ε)

-- by either rule of the ends and any method
pub spline_inverse_by_fewer : Keeps spline_inverse_by.Learnt
    (λ κs a z e. Fewer 2 z (twice a.0.ends a.0.method a.1.0 a.1.1.0 a.1.1.1.0.now a.0.check a.0.limit a.0.precision))
spline_inverse_by_fewer κs a z e p =
    reply_fewer a.0.ends a.0.method a.1.0 a.1.1.0 a.1.1.1.0.now a.0.check a.0.limit a.0.precision z p

pub spline_inverse_with_fewer : Keeps spline_inverse_with.Learnt
    (λ κs a z e. Fewer 2 z (twice Knots AsCrate a.0 a.1.0 a.1.1.0.now a.1.1.1.0 a.1.1.1.1.0 a.1.1.1.1.1.0))
spline_inverse_with_fewer κs a z e p =
    reply_fewer Knots AsCrate a.0 a.1.0 a.1.1.0.now a.1.1.1.0 a.1.1.1.1.0 a.1.1.1.1.1.0 z p

pub spline_inverse_fewer : Keeps spline_inverse.Learnt
    (λ κs a z e. Fewer 2 z (twice Knots AsCrate a.0 a.1.0 a.1.1.0.now a.1.1.1.0 default_limit default_precision))
spline_inverse_fewer κs a z e p = reply_fewer Knots AsCrate a.0 a.1.0 a.1.1.0.now a.1.1.1.0 default_limit default_precision z p
