-- A claim: that segment s of a curve, at the local place x, comes near the target y. What it is refused for, and when it holds.
-- Definitions only.
use Rattle.error.specs.declared.Refusal.{Refusal}
use Rattle.std.specs.Prelude.{Bool, cond, not, ◌&&◌, ◌||◌, List, [], ◌∷◌, ◌++◌, ℕ, ltb, length, Float, Ok, Err, true, false, Result}
use Rattle.std.specs.Float.Ieee.{le, is_nan}
use Rattle.error.specs.declared.Refusal.TheVariants.{NotANumber, BadPrecision, NoSegment}
use Rattle.error.specs.Refusals.{Uses, first, Verdict}
use Rattle.basis.specs.declared.Basis.{Basis}
use Rattle.basis.specs.Basis.{segments_of}
use Rattle.doubles.specs.Numbers.{nought, one}
use Rattle.checks.specs.Checks.{curve_length, precise, bad_knot}
use Rattle.spline.specs.Segment.{segment_of}
use Rattle.inverse_segment.specs.Segment.{near}

-- the table's length; target or local place no number; the precision; the segment not below the number of segments; the knots
abbrev pub claim_uses : Basis → Float → ℕ → Float → Float → List Float → Uses
claim_uses b y s x ε ks =
    curve_length b (length ks)
    ++ ((NotANumber, is_nan y || is_nan x) ∷ (BadPrecision, not (precise ε)) ∷ (NoSegment, not (ltb s (segments_of b (length ks))))
    ∷ bad_knot ks ∷ [])

-- the local place x is in 0 to 1, and the value v there differs from the target, as computed, by less than twice the precision
abbrev pub accepts : Float → Float → Float → Float → Bool
accepts y x v ε = le nought x && le x one && near y v ε

abbrev pub claimed : Verdict → Bool → Result Bool Refusal
claimed (Ok _) t = Ok t
claimed (Err r) t = Err r

unfoldable pub claim_of : Basis → Float → ℕ → Float → Float → List Float → Result Bool Refusal
claim_of b y s x ε ks = claimed (first (claim_uses b y s x ε ks)) (accepts y x (segment_of b ks s x) ε)
