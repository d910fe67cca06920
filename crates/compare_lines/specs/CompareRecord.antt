-- What a line says to the comparison: `curve` BASIS, `span` N, `knot` D, `other`, or none of these. Definitions only.
use Rattle.basis.specs.declared.Basis.{Basis}
use Rattle.std.specs.Prelude.{Bool, true, false, cond, List, [], ◌∷◌, ℕ, Some, None, Option}
use Rattle.text.specs.Text.{bytes, same, fields_of, hex_of}
use Rattle.text_decimals.specs.Decimals.{number_in}
use Rattle.lines_record.specs.Record.{named_of}
use Rattle.compare_lines.specs.declared.CompareRecord.{CompareRecord}
use Rattle.compare_lines.specs.declared.CompareRecord.TheVariants.{Curve, Span, Knot, Other, Bad}

abbrev pub curve_said : Option Basis → CompareRecord
curve_said (Some b) = Curve b
curve_said None = Bad

abbrev pub span_said : Option ℕ → CompareRecord
span_said (Some n) = Span n
span_said None = Bad

-- a knot is the number that its 16 digits make, and not a double: so two patterns of NaN are two knots
abbrev pub knot_said : Option ℕ → CompareRecord
knot_said (Some n) = Knot n
knot_said None = Bad

-- a word and the field after it; a span has 1 to 5 digits
unfoldable pub meaning_of : List ℕ → List ℕ → CompareRecord
meaning_of w s =
    cond (same w (bytes "curve")) (curve_said (named_of s))
    (cond (same w (bytes "span")) (span_said (number_in 5 s)) (cond (same w (bytes "knot")) (knot_said (hex_of s)) Bad))

-- a record has two fields, and `other` one
unfoldable pub of_fields : List (List ℕ) → CompareRecord
of_fields [] = Bad
of_fields (w ∷ []) = cond (same w (bytes "other")) Other Bad
of_fields (w ∷ s ∷ []) = meaning_of w s
of_fields (w ∷ s ∷ t ∷ ts) = Bad

unfoldable pub said_of : List ℕ → CompareRecord
said_of l = of_fields (fields_of l)

abbrev pub is_other : CompareRecord → Bool
is_other (Curve b) = false
is_other (Span n) = false
is_other (Knot n) = false
is_other Other = true
is_other Bad = false
