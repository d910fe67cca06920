-- The law of a weighting: the places stay. All that follows holds of each weighting that keeps it. Assumes nothing.
use mathlib.Core.Path.{◌≡◌, refl}
use mathlib.Core.Bool.{Bool, true, false}
use lib.Ieee.{Float}
use Rattle.inverse_segment.specs.declared.Bracket.{Bracket}
use Rattle.inverse_segment.specs.Round.{Weighting, halving, toward}

pub record Keeps (W : Weighting) : Type 0 where
  pub keeps_lower : (y : Float) (lower : Bool) (b : Bracket) → (W y lower b).lower ≡ b.lower
  pub keeps_upper : (y : Float) (lower : Bool) (b : Bracket) → (W y lower b).upper ≡ b.upper

halving_lower : (y : Float) (lower : Bool) (b : Bracket) → (halving y lower b).lower ≡ b.lower
unfolding halving
halving_lower y true b = refl
halving_lower y false b = refl

halving_upper : (y : Float) (lower : Bool) (b : Bracket) → (halving y lower b).upper ≡ b.upper
unfolding halving
halving_upper y true b = refl
halving_upper y false b = refl

pub halving_keeps : Keeps halving
halving_keeps = record { keeps_lower = halving_lower; keeps_upper = halving_upper }

toward_lower : (y : Float) (lower : Bool) (b : Bracket) → (toward y lower b).lower ≡ b.lower
unfolding toward
toward_lower y true b = refl
toward_lower y false b = refl

toward_upper : (y : Float) (lower : Bool) (b : Bracket) → (toward y lower b).upper ≡ b.upper
unfolding toward
toward_upper y true b = refl
toward_upper y false b = refl

pub toward_keeps : Keeps toward
toward_keeps = record { keeps_lower = toward_lower; keeps_upper = toward_upper }
