-- For how many evaluations to set time aside: whatever `most_evaluations` replies for a basis, a number of knots and some options, no inversion by them tells a
-- greater count, with a place or with 11. By the bound that every inversion keeps. And what others link of it. Assumes nothing.
use Rattle.inverse_segment.specs.Inversion.{Inversion}
use Rattle.std.specs.Prelude.{Some, None, Option}
use mathlib.Core.Path.{◌≡◌, refl, sym, ap, ◌∙◌, subst}
use mathlib.Core.List.{List}
use mathlib.Core.Bool.{Bool}
use Prim.Native.Nat.{ℕ, ◌≤◌}
use lib.ListN.{length}
use lib.Ieee.{Float}
use Rattle.basis.specs.declared.Basis.{Basis}
use Rattle.inverse_segment.specs.declared.Method.{Method}
use Rattle.inverse_segment.specs.declared.Method.TheVariants.{AsCrate, Steady}
use Rattle.inverse_segment.specs.Answer.{count_told, default_limit, default_precision}
use Rattle.inverse_segment.specs.Method.{steady_limit}
use Rattle.inverse_order.specs.declared.EndsBy.{EndsBy}
use Rattle.inverse_order.specs.declared.EndsBy.TheVariants.{Knots}
use Rattle.inverse.specs.Inverse.{inverse_by, most_of}
use Rattle.inverse.proofs.Promises.{inverse_bounded}
use Rattle.inverse.proofs.most_evaluations.Reads as most_evaluations
use Rattle.inverse.proofs.spline_inverse_by.Reads as spline_inverse_by
use Rattle.inverse.proofs.spline_inverse_with.Reads as spline_inverse_with
use Rattle.inverse.proofs.spline_inverse.Reads as spline_inverse
use Rattle.inverse.proofs.spline_inverse_steady.Reads as spline_inverse_steady
use Rattle.exports_reply.specs.Replies.{chosen_of, no_basis, chosen}
use Rattle.exports_reply.specs.Options.{way_of, way}
use Rattle.simmerstoat.proofs.options.simmerstoat_most_evaluations.Reads as c_most_evaluations
use Rattle.calls.specs.Calls.{AsksNothing, Keeps, OneReply}
use Rattle.promises.proofs.Exports.{NotZero}

-- ---- it asks nothing, and no second reply fits
pub most_evaluations_asks_nothing : AsksNothing most_evaluations.Asked
most_evaluations_asks_nothing κs a = tt

pub c_most_evaluations_asks_nothing : AsksNothing c_most_evaluations.Asked
c_most_evaluations_asks_nothing κs a = tt

one : {A : Type 0} {d x x' : A} → x ≡ d → x' ≡ d → x ≡ x'
one p q = p ∙ sym q

pub most_evaluations_one_reply : OneReply most_evaluations.Learnt (λ κs z e z' e'. z ≡ z')
most_evaluations_one_reply κs a z z' e e' p q = one p q

pub c_most_evaluations_one_reply : OneReply c_most_evaluations.Learnt
    (λ κs z e z' e'. (z ≡ z') × (e.1.1.1.1.1.0.now ≡ e'.1.1.1.1.1.0.now))
c_most_evaluations_one_reply κs a z z' e e' p q = (one p.0 q.0, one p.1 q.1)

-- ---- no inversion makes more
module _ (m : EndsBy) (how : Method) (b : Basis) (ks : List Float) (limit : ℕ) where
  -- whatever `most_evaluations` replies, asked for that basis, as many knots, the limit, the rule of the ends and the method: r tells no greater count
  abbrev pub Within : Inversion → Type 0
  Within r = Keeps most_evaluations.Learnt (λ κs q most e. q ≡ (b, (length ks, (limit, (m, (how, tt))))) → count_told r ≤ most)

  within : (y : Float) (check : Bool) (ε : Float) (r : Inversion) → r ≡ inverse_by m how b y ks check limit ε → Within r
  within y check ε r e κs q most e' p same =
      let f : most ≡ most_of m how b (length ks) limit =
      p ∙ ap (λ t. most_of t.1.1.1.0 t.1.1.1.1.0 t.0 t.1.0 t.1.1.0) same in
      subst (λ (n : ℕ). count_told r ≤ n) (sym f)
      (subst (λ (z : Inversion). count_told z ≤ most_of m how b (length ks) limit) (sym e) (inverse_bounded m how b y ks check limit ε))

pub spline_inverse_by_most : Keeps spline_inverse_by.Learnt
    (λ κs a z e. Within a.0.ends a.0.method a.1.0 a.1.1.1.0.now a.0.limit z)
spline_inverse_by_most κs a z e p =
    within a.0.ends a.0.method a.1.0 a.1.1.1.0.now a.0.limit a.1.1.0 a.0.check a.0.precision z p

pub spline_inverse_with_most : Keeps spline_inverse_with.Learnt (λ κs a z e. Within Knots AsCrate a.0 a.1.1.0.now a.1.1.1.1.0 z)
spline_inverse_with_most κs a z e p =
    within Knots AsCrate a.0 a.1.1.0.now a.1.1.1.1.0 a.1.0 a.1.1.1.0 a.1.1.1.1.1.0 z p

pub spline_inverse_most : Keeps spline_inverse.Learnt (λ κs a z e. Within Knots AsCrate a.0 a.1.1.0.now default_limit z)
spline_inverse_most κs a z e p = within Knots AsCrate a.0 a.1.1.0.now default_limit a.1.0 a.1.1.1.0 default_precision z p

pub spline_inverse_steady_most : Keeps spline_inverse_steady.Learnt (λ κs a z e. Within Knots Steady a.0 a.1.1.0.now steady_limit z)
spline_inverse_steady_most κs a z e p = within Knots Steady a.0 a.1.1.0.now steady_limit a.1.0 a.1.1.1.0 default_precision z p

-- ---- what others link: where it does not return 0 it writes nothing
kept : (c : Option Basis) (w : Option (EndsBy × Method)) (f : Basis → EndsBy → Method → ℕ) (old : ℕ)
    → NotZero (chosen c no_basis (λ b. way w no_basis (λ e m. 0)))
    → chosen c old (λ b. way w old (f b)) ≡ old
kept None w f old h = refl
kept (Some b) None f old h = refl
kept (Some b) (Some (e, m)) f old h = absurd (h refl)

pub c_most_evaluations_writes_nothing : Keeps c_most_evaluations.Learnt
    (λ κs a z e. NotZero z → e.1.1.1.1.1.0.now ≡ a.1.1.1.1.1.0.now)
c_most_evaluations_writes_nothing κs a z e p h =
    p.1
    ∙ kept (chosen_of a.0) (way_of a.1.1.1.0 a.1.1.1.1.0) (λ b n m. most_of n m b a.1.0 a.1.1.0) a.1.1.1.1.1.0.now
    (λ q. h (p.0 ∙ q))
