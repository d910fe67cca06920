-- "Not on the curve" by its number: a curve's inversion tells 11 only where no row applies, the end rule is silent and, as far as is promised, no segment's end
-- values enclose the target; and it does there. By the
-- promises of the case that carries a count, which is the only one with that number. Assumes nothing.
use Rattle.inverse_segment.specs.Inversion.{Inversion}
use mathlib.Core.Path.{◌≡◌, ap, subst}
use mathlib.Core.Bool.{Bool}
use mathlib.Core.List.{List}
use Prim.Native.Nat.{ℕ}
use lib.Ieee.{Float}
use Rattle.basis.specs.declared.Basis.{Basis}
use Rattle.inverse_segment.specs.Answer.{number_told, default_limit, default_precision}
use Rattle.inverse_segment.specs.declared.Method.{Method}
use Rattle.inverse_segment.specs.declared.Method.TheVariants.{AsCrate}
use Rattle.inverse_order.specs.declared.EndsBy.{EndsBy}
use Rattle.inverse_order.specs.declared.EndsBy.TheVariants.{Knots}
use Rattle.inverse.specs.Inverse.{inverse_uses}
use Rattle.inverse.proofs.Facts.{IfOff}
use Rattle.inverse.proofs.Promises.{Promised, Pass, Quiet, Premise, Nowhere}
use Rattle.inverse.proofs.spline_inverse_by.Reads as spline_inverse_by
use Rattle.inverse.proofs.spline_inverse_with.Reads as spline_inverse_with
use Rattle.inverse.proofs.spline_inverse.Reads as spline_inverse
use Rattle.calls.specs.Calls.{Keeps}
use Rattle.promises.proofs.Inverting.{spline_inverse_by_promised, spline_inverse_with_promised, spline_inverse_promised}
use Rattle.promises.proofs.Numbers.{InverseNumber, spline_inverse_by_number, spline_inverse_with_number, spline_inverse_number}

module _ (m : EndsBy) (how : Method) (b : Basis) (y : Float) (ks : List Float) (check : Bool) (limit : ℕ) (ε : Float) where
  pub record Eleven (z : Inversion) : Type 0 where
    pub only : number_told z ≡ 11
        → Pass m how b y ks check limit ε × Quiet m how b y ks check limit ε × (Premise m how b y ks check limit ε → Nowhere m how b y ks check limit ε)
    pub where_off : Pass m how b y ks check limit ε → Quiet m how b y ks check limit ε → Nowhere m how b y ks check limit ε → number_told z ≡ 11

  pub by_eleven : (z : Inversion) → InverseNumber (inverse_uses b y ks check limit ε) z → Promised m how b y ks check limit ε z → Eleven z
  by_eleven z n p =
      record {
        only = λ h. subst (IfOff _) (n.eleven h).1 p.off_only;
        where_off = λ f q w. ap number_told (p.off_where f q w).1;
      }

pub spline_inverse_by_eleven : Keeps spline_inverse_by.Learnt
    (λ κs a z e. Eleven a.0.ends a.0.method a.1.0 a.1.1.0 a.1.1.1.0.now a.0.check a.0.limit a.0.precision z)
spline_inverse_by_eleven κs a z e p =
    by_eleven a.0.ends a.0.method a.1.0 a.1.1.0 a.1.1.1.0.now a.0.check a.0.limit a.0.precision z
    (spline_inverse_by_number κs a z e p) (spline_inverse_by_promised κs a z e p)

pub spline_inverse_with_eleven : Keeps spline_inverse_with.Learnt
    (λ κs a z e. Eleven Knots AsCrate a.0 a.1.0 a.1.1.0.now a.1.1.1.0 a.1.1.1.1.0 a.1.1.1.1.1.0 z)
spline_inverse_with_eleven κs a z e p =
    by_eleven Knots AsCrate a.0 a.1.0 a.1.1.0.now a.1.1.1.0 a.1.1.1.1.0 a.1.1.1.1.1.0 z
    (spline_inverse_with_number κs a z e p) (spline_inverse_with_promised κs a z e p)

pub spline_inverse_eleven : Keeps spline_inverse.Learnt
    (λ κs a z e. Eleven Knots AsCrate a.0 a.1.0 a.1.1.0.now a.1.1.1.0 default_limit default_precision z)
spline_inverse_eleven κs a z e p =
    by_eleven Knots AsCrate a.0 a.1.0 a.1.1.0.now a.1.1.1.0 default_limit default_precision z (spline_inverse_number κs a z e p)
    (spline_inverse_promised κs a z e p)
