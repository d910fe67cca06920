-- The call that inverts a curve: what it refuses, and what it answers. Definitions only.
use Rattle.inverse_segment.specs.Inversion.{Inversion}
use Rattle.std.specs.Prelude.{List, [], ◌∷◌, ◌++◌, Bool, ℕ, ◌+◌, length, Float}
use Rattle.error.specs.Refusals.{Uses, first}
use Rattle.basis.specs.declared.Basis.{Basis}
use Rattle.basis.specs.Basis.{segments_of}
use Rattle.spline.specs.Segment.{segment_of}
use Rattle.checks.specs.Checks.{curve_length, bad_knot, asked}
use Rattle.inverse_segment.specs.Evaluations.{Evaluations}
use Rattle.inverse_segment.specs.Answer.{inverted, unless_refused, default_precision}
use Rattle.inverse_segment.specs.declared.Method.{Method}
use Rattle.inverse_segment.specs.declared.Method.TheVariants.{AsCrate, Steady}
use Rattle.inverse_segment.specs.Method.{rule_of, steady_limit}
use Rattle.inverse_order.specs.declared.EndsBy.{EndsBy}
use Rattle.inverse_order.specs.declared.EndsBy.TheVariants.{Knots}
use Rattle.inverse_order.specs.Order.{turn_back}
use Rattle.inverse_search.specs.Bound.{bound_of}
use Rattle.inverse.specs.EndRule.{end_rule_of, own}
use Rattle.inverse.specs.Curve.{located, evaluations}

abbrev pub inverse_uses : Basis → Float → List Float → Bool → ℕ → Float → Uses
inverse_uses b y ks check limit ε = curve_length b (length ks) ++ asked y limit ε ++ (bad_knot ks ∷ turn_back check ks ∷ [])

unfoldable pub inverse_by : EndsBy → Method → Basis → Float → List Float → Bool → ℕ → Float → Inversion
inverse_by m how b y ks check limit ε =
    let r = end_rule_of m b ks (segment_of b ks) in
    inverted (first (inverse_uses b y ks check limit ε))
    (located (rule_of how) r.ends r.made (segment_of b ks) (segments_of b (length ks)) y ε limit)

-- the evaluations that the call makes: none where it refuses by a row
unfoldable pub evaluations_by : EndsBy → Method → Basis → Float → List Float → Bool → ℕ → Float → Evaluations
evaluations_by m how b y ks check limit ε =
    let r = end_rule_of m b ks (segment_of b ks) in
    unless_refused (first (inverse_uses b y ks check limit ε))
    (evaluations (rule_of how) r.ends r.made (segment_of b ks) (segments_of b (length ks)) y ε limit)

-- as the crate inverts: by the knots, and by its own rule
abbrev pub inverse_of : Basis → Float → List Float → Bool → ℕ → Float → Inversion
inverse_of = inverse_by Knots AsCrate

abbrev pub inverse_evaluations : Basis → Float → List Float → Bool → ℕ → Float → Evaluations
inverse_evaluations = evaluations_by Knots AsCrate

-- by the knots and by the steady method, with its defaults
abbrev pub steady_of : Basis → Float → List Float → Bool → Inversion
steady_of b y ks check = inverse_by Knots Steady b y ks check steady_limit default_precision

-- at most so many evaluations of n knots, by the end rule, the method and the limit that are asked for: the rule's own, and the bound of
-- the search
abbrev pub most_of : EndsBy → Method → Basis → ℕ → ℕ → ℕ
most_of m how b n limit = own m + bound_of (segments_of b n) limit
