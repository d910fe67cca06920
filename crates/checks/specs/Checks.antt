-- When the rows of the refusal table that several calls share apply: to lengths, to knots, to what an inversion is asked. Definitions only.
use Rattle.std.specs.Prelude.{Bool, true, false, not, cond, ◌&&◌, List, [], ◌∷◌, ℕ, suc, ltb, eqb, pos, Float}
use Rattle.std.specs.Float.{fin, inf}
use Rattle.std.specs.Float.Ieee.{neg, le, lt, is_nan}
use Rattle.error.specs.declared.Refusal.TheVariants.{TooFew, BadPattern, TooMany, NotANumber, BadPrecision, NoRounds, BadKnot}
use Rattle.error.specs.declared.Refusal.{Refusal}
use Rattle.error.specs.Refusals.{Uses}
use Rattle.basis.specs.declared.Basis.{Basis}
use Rattle.basis.specs.Basis.{most_knots, regular}
use Rattle.doubles.specs.Numbers.{nought}

-- ---- lengths
-- a curve of n knots: fewer than 4; (n − 4) is no multiple of STEP; more than 4,096
abbrev pub curve_length : Basis → ℕ → Uses
curve_length b n = (TooFew, ltb n 4) ∷ (BadPattern, not (regular b n)) ∷ (TooMany, ltb most_knots n) ∷ []

-- one segment of n knots: fewer than 4; more than 4
abbrev pub segment_length : ℕ → Uses
segment_length n = (TooFew, ltb n 4) ∷ (BadPattern, ltb 4 n) ∷ []

-- ---- knots
-- 2^40
abbrev pub bound : Float
bound = fin false 1 (pos 40)

-- finite, and at most 2^40 in magnitude
unfoldable pub in_range : Float → Bool
in_range x = le (neg bound) x && le x bound

unfoldable pub all_in_range : List Float → Bool
all_in_range [] = true
all_in_range (x ∷ xs) = in_range x && all_in_range xs

-- the number of the first that is not, from 0
unfoldable pub first_bad : List Float → ℕ
first_bad [] = 0
first_bad (x ∷ xs) = cond (in_range x) (suc (first_bad xs)) 0

-- the row of the knots
abbrev pub bad_knot : List Float → Refusal × Bool
bad_knot ks = (BadKnot (first_bad ks), not (all_in_range ks))

-- ---- an inversion's target, precision and limit
-- finite and above 0
unfoldable pub precise : Float → Bool
precise ε = lt nought ε && lt ε (inf false)

abbrev pub asked : Float → ℕ → Float → Uses
asked y limit ε = (NotANumber, is_nan y) ∷ (BadPrecision, not (precise ε)) ∷ (NoRounds, eqb limit 0) ∷ []
