-- The picture of a table and of the finds asked of it, as the bytes of an SVG. Definitions only.
use Rattle.error.specs.declared.Refusal.{Refusal}
use Rattle.std.specs.Prelude.{cond, List, [], ◌++◌, ℕ, zero, suc, ◌+◌, length, get_or, Float, Ok, Err, Option}
use Rattle.std.specs.Float.{nan}
use Rattle.basis.specs.declared.Basis.{Basis}
use Rattle.doubles.specs.Numbers.{nought}
use Rattle.inverse_order.specs.declared.EndsBy.{EndsBy}
use Rattle.spline.specs.Evaluation.{spline_of, Evaluation}
use Rattle.table_span.specs.declared.Table.{Table}
use Rattle.text.specs.Text.{bytes}
use Rattle.picture_scale.specs.declared.Extent.{Extent}
use Rattle.picture_scale.specs.Scale.{height_of, curve_height, column_of, pieces_of, shown, knot_column, extent_of}
use Rattle.picture_scale.specs.Words.{point_text, dot_text}
use Rattle.picture_axes.specs.Axes.{depth_axis, time_axis, time_name}
use Rattle.picture_notes.specs.Notes.{note_text, fault_text}
use Rattle.picture_finds.specs.Finds.{finds_text}

-- ---- the curve and the knots

-- the first i points of the curve
unfoldable pub points_text : Basis → List Float → Extent → ℕ → ℕ → List ℕ
points_text b ks e p zero = []
points_text b ks e p (suc i) = points_text b ks e p i ++ point_text e (column_of i p) (curve_height b ks p i)

-- knot j of n, if it is shown
abbrev pub knot_text : Basis → ℕ → Extent → ℕ → Float → List ℕ
knot_text b n e j x = cond (shown b n j) (dot_text e (knot_column b n j) (height_of x)) []

-- the first j knots
unfoldable pub knots_text : Basis → List Float → Extent → ℕ → List ℕ
knots_text b ks e zero = []
knots_text b ks e (suc j) = knots_text b ks e j ++ knot_text b (length ks) e j (get_or ks j nan)

-- ---- the whole: the knots ks, and the targets l asked of them

unfoldable pub curve_text : ℕ → EndsBy → Basis → List Float → List Float → List ℕ
curve_text span m b ks l =
    let n = length ks in let e = extent_of b ks in
    depth_axis e
    ++ bytes "<polyline class=\"c\" points=\"" ++ points_text b ks e (pieces_of b n) (pieces_of b n + 1)
    ++ bytes "\"/>\n<path class=\"k\" d=\"" ++ knots_text b ks e n ++ bytes "\"/>\n"
    ++ finds_text span m b ks e l (length l)

-- the curve, unless the table is refused
abbrev pub body_in : ℕ → EndsBy → Basis → List Float → List Float → Evaluation → List ℕ
body_in span m b ks l (Ok v) = curve_text span m b ks l
body_in span m b ks l (Err r) = note_text b (length ks) 0 (bytes "table") r

unfoldable pub head_text : List ℕ
head_text =
    bytes "<svg xmlns=\"http://www.w3.org/2000/svg\" width=\"1000\" height=\"700\" viewBox=\"0 0 10000 7000\">\n"
    ++ bytes "<style>svg{font-family:sans-serif;font-size:160px}text{fill:#7a7a7a}path,polyline{fill:none;stroke:#7a7a7a;stroke-width:15}"
    ++ bytes
    ".g{opacity:.3}.e{text-anchor:end}.s{font-size:70px}.t{text-anchor:middle}.c{stroke:#3b82d6;stroke-width:25}.f{stroke:#2e9e5b;stroke-width:20}"
    ++ bytes
    ".k{stroke:#d9730d;stroke-width:100;stroke-linecap:round}.p{stroke:#2e9e5b;stroke-width:120;stroke-linecap:round}.r{stroke:#e5484d;stroke-dasharray:60 40}text.f{fill:#2e9e5b;stroke:none}text.r{fill:#e5484d;stroke:none}</style>\n"
    ++ bytes "<path d=\"M1000,400V6400H9600\"/><text x=\"1000\" y=\"300\">depth</text><text class=\"e\" x=\"9600\" y=\"6850\">"

unfoldable pub picture_text : Table → EndsBy → List Float → List Float → Option Refusal → List ℕ
picture_text t m ks l fault =
    head_text ++ time_name t.span ++ time_axis t.span
    ++ body_in t.span m t.basis ks l (spline_of t.basis nought ks) ++ fault_text t.basis (length ks) fault ++ bytes "</svg>\n"
