-- Strict conversion of a curve: what it refuses, and what it gives. Definitions only.
use Rattle.std.specs.Prelude.{Bool, false, not, ◌&&◌, List, [], ◌∷◌, ◌++◌, ℕ, ◌-◌, ltb, length, Float}
use Rattle.std.specs.Float.{inf}
use Rattle.std.specs.Float.Ieee.{le, lt}
use Rattle.error.specs.declared.Refusal.{Refusal}
use Rattle.error.specs.declared.Refusal.TheVariants.{BadAllowance, LostSeam}
use Rattle.error.specs.Refusals.{Uses, first}
use Rattle.basis.specs.declared.Basis.{Basis}
use Rattle.basis.specs.Basis.{step_of, segments_of}
use Rattle.doubles.specs.Numbers.{nought}
use Rattle.convert_matrix.specs.Elimination.{conversion_of}
use Rattle.convert.specs.Output.{spline_output}
use Rattle.convert.specs.Conversion.{Conversion, unless, convert_uses}
use Rattle.convert_strict.specs.Seams.{lost_seam}

-- finite and not negative; -0 is not negative
unfoldable pub allowable : Float → Bool
allowable x = le nought x && lt x (inf false)

-- the lowest segment of a curve at whose seam the conversion loses a double; 0 if it loses none
unfoldable pub lost_seam_of : Basis → Basis → List Float → Float → ℕ
lost_seam_of from to ks allowance = lost_seam (conversion_of from to) (step_of from) (step_of to) allowance ks (segments_of from (length ks) - 1)

-- the row of the allowance
abbrev pub bad_allowance : Float → Refusal × Bool
bad_allowance allowance = (BadAllowance, not (allowable allowance))

-- the row of the seams
abbrev pub lost_row : ℕ → Refusal × Bool
lost_row s = (LostSeam s, ltb 0 s)

-- those of the conversion and the allowance's: all that is decided before the seams are looked at
abbrev pub allowed_uses : Basis → Basis → List Float → Float → ℕ → Uses
allowed_uses from to ks allowance room = convert_uses from to ks room ++ (bad_allowance allowance ∷ [])

-- those of the conversion, and these two
abbrev pub strict_uses : Basis → Basis → List Float → Float → ℕ → Uses
strict_uses from to ks allowance room =
    convert_uses from to ks room ++ (bad_allowance allowance ∷ lost_row (lost_seam_of from to ks allowance) ∷ [])

-- into a buffer of room places: what the conversion gives
unfoldable pub strict_of : Basis → Basis → List Float → Float → ℕ → Conversion
strict_of from to ks allowance room = unless (first (strict_uses from to ks allowance room)) (spline_output from to ks)
