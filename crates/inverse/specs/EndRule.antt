-- The end rule, with its direction: by the knots, or by the curve's own ends. Definitions only.
use Rattle.std.specs.Prelude.{List, [], Bool, cond, ℕ, ◌-◌, eqb, length, Float}
use Rattle.std.specs.Float.Ieee.{lt, le}
use Rattle.basis.specs.declared.Basis.{Basis}
use Rattle.basis.specs.Basis.{step_of, segments_of}
use Rattle.doubles.specs.Numbers.{nought, one}
use Rattle.inverse_segment.specs.Evaluations.{Evaluations, see}
use Rattle.inverse.specs.declared.Ends.{Ends}
use Rattle.inverse_order.specs.declared.EndsBy.{EndsBy}
use Rattle.inverse_order.specs.declared.EndsBy.TheVariants.{Knots, Curve}
use Rattle.inverse_order.specs.Order.{knot, rises}

-- it goes by a direction, and a value at either end. Rising: y ≤ low gives parameter 0, and y ≥ high gives 1; falling: y ≥ low and y ≤ high
abbrev pub at_low : Ends → Float → Bool
at_low e y = cond e.rising (le y e.low) (le e.low y)

abbrev pub at_high : Ends → Float → Bool
at_high e y = cond e.rising (le e.high y) (le y e.high)

-- low is knot 1 and high knot n − 2 where STEP is 1, else knot 0 and knot n − 1
abbrev pub knot_ends : Basis → List Float → Ends
knot_ends b ks =
    cond (eqb (step_of b) 1)
    (record { rising = rises ks; low = knot ks 1; high = knot ks (length ks - 2) })
    (record { rising = rises ks; low = knot ks 0; high = knot ks (length ks - 1) })

-- what it goes by, and the evaluations made for that
pub record EndRule : Type 0 where
  pub ends : Ends
  pub made : Evaluations

-- the evaluated start of the first of k segments and the evaluated end of the last; rising means start < end
abbrev pub curve_rule : (ℕ → Float → Float) → ℕ → EndRule
curve_rule g k =
    let a = see (g 0) 0 nought [] in
    let b = see (g (k - 1)) (k - 1) one a.made in
    record { ends = record { rising = lt a.value b.value; low = a.value; high = b.value }; made = b.made }

-- the end rule that is asked for; g s is segment s of the curve of the knots ks
abbrev pub end_rule_of : EndsBy → Basis → List Float → (ℕ → Float → Float) → EndRule
end_rule_of Knots b ks g = record { ends = knot_ends b ks; made = [] }
end_rule_of Curve b ks g = curve_rule g (segments_of b (length ks))

-- how many evaluations it makes
abbrev pub own : EndsBy → ℕ
own Knots = 0
own Curve = 2
