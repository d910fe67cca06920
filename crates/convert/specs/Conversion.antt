-- The two calls of conversion: what each refuses, and what it gives. Definitions only.
use Rattle.std.specs.Prelude.{List, [], ◌∷◌, ◌++◌, ℕ, ltb, length, Float, Ok, Err}
use Rattle.error.specs.declared.Refusal.{Refusal}
use Rattle.error.specs.declared.Refusal.TheVariants.{LinearOutput, ShortBuffer}
use Rattle.error.specs.Refusals.{Uses, first, Verdict}
use Rattle.basis.specs.declared.Basis.{Basis}
use Rattle.basis.specs.Basis.{is_linear}
use Rattle.checks.specs.Checks.{curve_length, segment_length, bad_knot}
use Rattle.convert.specs.Output.{segment_output, spline_output, output_length}

-- the doubles to be written, or a refusal
pub data Conversion : Type 0 where
  gives : List Float → Conversion
  refuses : Refusal → Conversion

abbrev pub unless : Verdict → List Float → Conversion
unless (Ok _) l = gives l
unless (Err r) l = refuses r

-- the output's basis, the room for need doubles, and the knots
abbrev pub output_uses : Basis → List Float → ℕ → ℕ → Uses
output_uses to ks need room = (LinearOutput, is_linear to) ∷ (ShortBuffer, ltb room need) ∷ bad_knot ks ∷ []

-- one segment, into a buffer of room places
abbrev pub convert_segment_uses : Basis → List Float → ℕ → Uses
convert_segment_uses to cv room = segment_length (length cv) ++ output_uses to cv 4 room

unfoldable pub converted_segment_of : Basis → Basis → List Float → ℕ → Conversion
unfolding segment_output
converted_segment_of from to cv room = unless (first (convert_segment_uses to cv room)) (segment_output from to cv)

-- a curve
abbrev pub convert_uses : Basis → Basis → List Float → ℕ → Uses
convert_uses from to ks room = curve_length from (length ks) ++ output_uses to ks (output_length from to (length ks)) room

unfoldable pub converted_of : Basis → Basis → List Float → ℕ → Conversion
unfolding spline_output
converted_of from to ks room = unless (first (convert_uses from to ks room)) (spline_output from to ks)
