-- Refusals, as bytes: a line of text in the frame, at its upper left, in one of ten slots, and a line through the knot that is told.
-- Definitions only.
use Rattle.std.specs.Prelude.{List, [], ◌++◌, ℕ, ◌+◌, ◌*◌, Some, None, Option}
use Rattle.basis.specs.declared.Basis.{Basis}
use Rattle.error.specs.declared.Refusal.{Refusal}
use Rattle.error.specs.declared.Where.{Where}
use Rattle.error.specs.declared.Where.TheVariants.{Nowhere, Knot, Segment}
use Rattle.error.specs.Refusals.{number_of, where_of}
use Rattle.text.specs.Text.{bytes}
use Rattle.picture_scale.specs.Scale.{knot_column}
use Rattle.picture_scale.specs.Words.{numbered}

abbrev pub knot_tail : Basis → ℕ → ℕ → List ℕ
knot_tail b n i =
    numbered (bytes " at knot ") i ++ numbered (bytes "</text>\n<path class=\"r\" d=\"M") (knot_column b n i) ++ bytes ",400V6400\"/>\n"

-- a knot that is told is marked
abbrev pub tail_text : Basis → ℕ → Where → List ℕ
tail_text b n Nowhere = bytes "</text>\n"
tail_text b n (Knot i) = knot_tail b n i
tail_text b n (Segment i) = bytes "</text>\n"

abbrev pub note_text : Basis → ℕ → ℕ → List ℕ → Refusal → List ℕ
note_text b n slot who r =
    numbered (bytes "<text class=\"r\" x=\"1100\" y=\"") (600 + 180 * slot) ++ bytes "\">" ++ who
    ++ numbered (bytes " refused: ") (number_of r) ++ tail_text b n (where_of r)

abbrev pub fault_text : Basis → ℕ → Option Refusal → List ℕ
fault_text b n None = []
fault_text b n (Some r) = note_text b n 1 (bytes "line") r
