-- The replies, and the text of each. Definitions only.
use Rattle.std.specs.Prelude.{List, [], ◌∷◌, ◌++◌, ℕ, Float}
use Rattle.basis.specs.declared.Basis.{Basis}
use Rattle.error.specs.declared.Refusal.{Refusal}
use Rattle.error.specs.Refusals.{number_of, places_of}
use Rattle.inverse_segment.specs.declared.Ground.{Ground}
use Rattle.inverse_segment.specs.declared.Ground.TheVariants.{End, Edge, Value, Width, Spent}
use Rattle.lines_record.specs.Record.{name_of}
use Rattle.text.specs.Text.{bytes, LF, TAB, dec_text, double_text}

pub data Reply : Type 0 where
  silence : Reply
  refused : Refusal → Reply
  value : Float → Reply
  place : Float → Ground → ℕ → List ℕ → Reply
  curve : Basis → List ℕ → List Float → Reply

-- each place that a refusal tells, after a tab
abbrev pub places_text : List ℕ → List ℕ
places_text [] = []
places_text (i ∷ is) = (TAB ∷ []) ++ dec_text 4 i ++ places_text is

-- `refused`, its number, and the knot's number where it tells one
abbrev pub refused_text : Refusal → List ℕ
refused_text r = bytes "refused\t" ++ dec_text 2 (number_of r) ++ places_text (places_of r) ++ (LF ∷ [])

-- a word and a double
abbrev pub line_text : List ℕ → Float → List ℕ
line_text w x = w ++ double_text x ++ (LF ∷ [])

abbrev pub ground_name : Ground → List ℕ
ground_name End = bytes "end"
ground_name Edge = bytes "edge"
ground_name Value = bytes "value"
ground_name Width = bytes "width"
ground_name Spent = bytes "spent"

-- each second, after a tab
abbrev pub seconds_text : List ℕ → List ℕ
seconds_text [] = []
seconds_text (s ∷ ss) = (TAB ∷ []) ++ dec_text 9 s ++ seconds_text ss

-- `place` tells parameter, ground, decimal count, and the second where the table has a span
abbrev pub place_text : Float → Ground → ℕ → List ℕ → List ℕ
place_text x g n ss =
    bytes "place\t" ++ double_text x ++ (TAB ∷ []) ++ ground_name g ++ (TAB ∷ []) ++ dec_text 9 n ++ seconds_text ss ++ (LF ∷ [])

-- a converted curve is told in the records that would enter it: its basis, its span where it has one, its knots
abbrev pub spans_text : List ℕ → List ℕ
spans_text [] = []
spans_text (s ∷ ss) = bytes "span\t" ++ dec_text 9 s ++ (LF ∷ []) ++ spans_text ss

unfoldable pub knots_text : List Float → List ℕ
knots_text [] = []
knots_text (x ∷ l) = line_text (bytes "knot\t") x ++ knots_text l

abbrev pub curve_text : Basis → List ℕ → List Float → List ℕ
curve_text b ss l = bytes "curve\t" ++ name_of b ++ (LF ∷ []) ++ spans_text ss ++ knots_text l

unfoldable pub text_of : Reply → List ℕ
text_of silence = []
text_of (refused r) = refused_text r
text_of (value x) = line_text (bytes "value\t") x
text_of (place x g n ss) = place_text x g n ss
text_of (curve b ss l) = curve_text b ss l
