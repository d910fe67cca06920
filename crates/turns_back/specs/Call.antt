-- The two calls: the refusals, then the first segment that goes against the direction. Definitions only.
use Rattle.turns_back.specs.declared.Turning.{Turning}
use Rattle.error.specs.declared.Refusal.{Refusal}
use Rattle.turns_back.specs.declared.Turning.TheVariants.{Flat, Never, At}
use Rattle.std.specs.Prelude.{Bool, true, false, cond, List, [], ◌∷◌, ◌++◌, ℕ, ◌-◌, ltb, ℤ, length, Ok, Err, Result}
use Rattle.std.specs.Int.Signed.{lt_z}
use Rattle.error.specs.declared.Refusal.TheVariants.{BadKnot}
use Rattle.error.specs.Refusals.{Uses, first, Verdict}
use Rattle.basis.specs.declared.Basis.{Basis}
use Rattle.basis.specs.Basis.{segments_of}
use Rattle.checks.specs.Checks.{curve_length}
use Rattle.whole.specs.Held.{turned_all, first_large}
use Rattle.turns_back.specs.Curve.{curve_at, first_fall}
use Rattle.turns_back.specs.declared.Way.{Way}
use Rattle.turns_back.specs.declared.Way.TheVariants.{Rising, Falling, Level}

-- the greatest magnitude of a knot
abbrev pub most : ℕ
most = 1000000000000

-- fewer than 4 knots; no whole number of steps; more than 4,096; a knot too large
abbrev pub turning_uses : Basis → List ℤ → Uses
turning_uses b z = curve_length b (length z) ++ ((BadKnot (first_large most z), ltb (first_large most z) (length z)) ∷ [])

abbrev pub turning : ℕ → ℕ → Turning
turning s k = cond (ltb s k) (At s) Never

-- where the curve turns back: rising, the first segment that falls; else, the first that rises
unfoldable pub turning_of : Basis → Bool → List ℤ → Turning
unfolding first_fall
turning_of b up z = turning (first_fall b (turned_all up z)) (segments_of b (length z))

-- where the curve starts and ends, times the basis's divisor
unfoldable pub start_of : Basis → List ℤ → ℤ
unfolding curve_at
start_of b z = curve_at b z 0 1 0

unfoldable pub end_of : Basis → List ℤ → ℤ
unfolding curve_at
end_of b z = curve_at b z (segments_of b (length z) - 1) 1 1

-- the direction from its start to its end, of which there is none where they are equal
abbrev pub way_of : ℤ → ℤ → Way
way_of s e = cond (lt_z s e) Rising (cond (lt_z e s) Falling Level)

abbrev pub by_way : Way → Basis → List ℤ → Turning
by_way Rising b z = turning_of b true z
by_way Falling b z = turning_of b false z
by_way Level b z = Flat

abbrev pub by_ends : ℤ → ℤ → Basis → List ℤ → Turning
by_ends s e b z = cond (lt_z s e) (turning_of b true z) (cond (lt_z e s) (turning_of b false z) Flat)

abbrev pub answered : Verdict → Turning → Result Turning Refusal
answered (Ok _) t = Ok t
answered (Err r) t = Err r

-- the call with a direction given
unfoldable pub turns_back_by_of : Basis → Bool → List ℤ → Result Turning Refusal
unfolding first_large turning_of
turns_back_by_of b up z = answered (first (turning_uses b z)) (turning_of b up z)

-- the call with the direction of the curve's own ends
unfoldable pub turns_back_of : Basis → List ℤ → Result Turning Refusal
unfolding first_large turning_of start_of end_of
turns_back_of b z = answered (first (turning_uses b z)) (by_ends (start_of b z) (end_of b z) b z)
