-- The axes, as bytes: a line and a label at the greatest depth and at the last hour, and at each of the first seven multiples of the step
-- that lie half a step below them or more. Definitions only.
use Rattle.std.specs.Prelude.{cond, List, [], ◌++◌, ℕ, ◌+◌, ◌*◌, ◌-◌, ◌/◌, leb, eqb}
use Rattle.text.specs.Text.{bytes}
use Rattle.picture_scale.specs.declared.Extent.{Extent}
use Rattle.picture_scale.specs.Scale.{level, column_of, row_of, step_of, above_of}
use Rattle.picture_scale.specs.Words.{numbered, label_text, is_long}

-- ---- depths

-- a label that may have more than eight characters is small
abbrev pub size_text : ℕ → List ℕ
size_text h = cond (is_long h) (bytes " s") []

abbrev pub depth_text : Extent → ℕ → List ℕ
depth_text e h =
    numbered (bytes "<path class=\"g\" d=\"M950,") (row_of e h)
    ++ bytes "H9600\"/><text class=\"e" ++ size_text h ++ numbered (bytes "\" x=\"900\" y=\"") (row_of e h)
    ++ bytes "\" dy=\"50\">" ++ label_text h ++ bytes "</text>\n"

abbrev pub depth_label : Extent → ℕ → ℕ → List ℕ
depth_label e last h = cond (leb h last) (depth_text e h) []

abbrev pub depths_text : Extent → ℕ → ℕ → ℕ → List ℕ
depths_text e last s h =
    depth_label e last h ++ depth_label e last (h + s) ++ depth_label e last (h + 2 * s) ++ depth_label e last (h + 3 * s)
    ++ depth_label e last (h + 4 * s) ++ depth_label e last (h + 5 * s) ++ depth_label e last (h + 6 * s)

unfoldable pub depth_axis : Extent → List ℕ
depth_axis e =
    let s = step_of 16 (e.hi - e.lo) in
    depths_text e (e.hi - 1 - (s + 1) / 2) s (above_of e.lo s) ++ depth_text e (e.hi - 1)

-- ---- times

-- the parameter in thousandths, or thousandths of hours where there is a span
abbrev pub stretch_of : ℕ → ℕ
stretch_of span = cond (eqb span 0) 1000 (span * 10 / 36)

abbrev pub time_column : ℕ → ℕ → ℕ
time_column span v = cond (eqb span 0) (column_of v 1000) (column_of (v * 36) (span * 10))

abbrev pub time_text : ℕ → ℕ → List ℕ
time_text span v =
    numbered (bytes "<path class=\"g\" d=\"M") (time_column span v)
    ++ numbered (bytes ",400V6450\"/><text class=\"t\" x=\"") (time_column span v)
    ++ bytes "\" y=\"6630\">" ++ label_text (level + v) ++ bytes "</text>\n"

abbrev pub time_label : ℕ → ℕ → ℕ → List ℕ
time_label span last v = cond (leb v last) (time_text span v) []

abbrev pub times_text : ℕ → ℕ → ℕ → List ℕ
times_text span last s =
    time_label span last 0 ++ time_label span last s ++ time_label span last (2 * s) ++ time_label span last (3 * s)
    ++ time_label span last (4 * s) ++ time_label span last (5 * s) ++ time_label span last (6 * s)

unfoldable pub time_axis : ℕ → List ℕ
time_axis span =
    let s = step_of 16 (stretch_of span) in times_text span (stretch_of span - (s + 1) / 2) s ++ time_text span (stretch_of span)

abbrev pub time_name : ℕ → List ℕ
time_name span = cond (eqb span 0) (bytes "parameter</text>\n") (bytes "hours from dusk</text>\n")
