-- The last targets asked, and each find as bytes: the place, or the refusal. Definitions only.
use Rattle.inverse_segment.specs.Inversion.{Inversion}
use Rattle.inverse_segment.specs.declared.Miss.TheVariants.{Refused, OffCurve}
use Rattle.std.specs.Prelude.{Bool, true, false, cond, List, [], ◌∷◌, ◌++◌, ℕ, zero, suc, ◌+◌, ◌*◌, ◌-◌, ◌/◌, length, take, get_or, eqb, Float, Ok, Err}
use Rattle.std.specs.Float.{nan}
use Rattle.basis.specs.declared.Basis.{Basis}
use Rattle.basis.specs.declared.Basis.TheVariants.{Bspline, Bezier, CatmullRom, Hermite, Linear, Power}
use Rattle.error.specs.declared.Refusal.TheVariants.{OffCurve}
use Rattle.inverse.specs.Inverse.{inverse_by}
use Rattle.inverse_segment.specs.declared.Method.TheVariants.{Steady}
use Rattle.inverse_segment.specs.Method.{steady_limit}
use Rattle.inverse_order.specs.declared.EndsBy.{EndsBy}
use Rattle.inverse_segment.specs.Answer.{default_precision}
use Rattle.inverse_segment.specs.declared.Ground.{Ground}
use Rattle.inverse_segment.specs.declared.Ground.TheVariants.{End, Edge, Value, Width, Spent}
use Rattle.inverse_segment.specs.declared.Place.{Place}
use Rattle.table_span.specs.Second.{good_span, second_of}
use Rattle.text.specs.Text.{bytes}
use Rattle.picture_scale.specs.declared.Extent.{Extent}
use Rattle.picture_scale.specs.Scale.{level, height_of, curve_height, row_of}
use Rattle.picture_scale.specs.Words.{numbered, label_text}
use Rattle.picture_notes.specs.Notes.{note_text}

-- y before the seven latest
abbrev pub asked : Float → List Float → List Float
asked y l = take 8 (y ∷ l)

-- ---- what is drawn of them

-- a parameter's place across
unfoldable pub place_column : Float → ℕ
place_column x = 1000 + second_of 8600 x

-- from the depth axis to the place and down to the time axis, and a dot
abbrev pub mark_text : ℕ → ℕ → List ℕ
mark_text x y =
    numbered (bytes "<path class=\"f\" d=\"M1000,") y ++ numbered (bytes "H") x ++ numbered (bytes "V6400\"/><path class=\"p\" d=\"M") x
    ++ numbered (bytes ",") y ++ bytes "h0\"/>\n"

-- a parameter's time in thousandths: of hours, by the second that the line program tells, where there is a span; else of the whole
unfoldable pub time_of : ℕ → Float → ℕ
time_of span x = cond (good_span span) (second_of span x * 10 / 36) (second_of 1000 x)

-- the depth above its line, where that starts, and the time at the foot of the line down, to its left
abbrev pub told_text : ℕ → ℕ → ℕ → ℕ → List ℕ
told_text x y h v =
    numbered (bytes "<text class=\"f\" x=\"1040\" y=\"") (y - 50) ++ bytes "\">" ++ label_text h
    ++ numbered (bytes "</text><text class=\"f e\" x=\"") (x - 50) ++ bytes "\" y=\"6350\">" ++ label_text (level + v)
    ++ bytes "</text>\n"

-- a place on the curve
abbrev pub place_text : ℕ → Extent → Float → Place → List ℕ
place_text span e y p =
    let x = place_column p.parameter in let r = row_of e (height_of y) in
    mark_text x r ++ told_text x r (height_of y) (time_of span p.parameter)

-- ---- beyond an end

abbrev pub is_end : Ground → Bool
is_end End = true
is_end Edge = false
is_end Value = false
is_end Width = false
is_end Spent = false

-- whether the place is an end of the curve, and the curve does not come to y there
unfoldable pub is_beyond : Basis → List Float → Float → Place → Bool
is_beyond b ks y p = cond (eqb (curve_height b ks 1 (second_of 1 p.parameter)) (height_of y)) false (is_end p.ground)

abbrev pub beyond_text : ℕ → ℕ → List ℕ
beyond_text slot h =
    numbered (bytes "<text class=\"r\" x=\"1100\" y=\"") (600 + 180 * slot) ++ bytes "\">find " ++ label_text h
    ++ bytes " lies beyond the curve</text>\n"

-- what is beyond an end is told, and not drawn as a place
abbrev pub at_text : ℕ → Basis → List Float → Extent → ℕ → Float → Place → List ℕ
at_text span b ks e slot y p = cond (is_beyond b ks y p) (beyond_text slot (height_of y)) (place_text span e y p)

-- ---- the find

abbrev pub find_in : ℕ → Basis → List Float → Extent → ℕ → Float → Inversion → List ℕ
find_in span b ks e slot y (Err (Refused r)) = note_text b (length ks) slot (bytes "find") r
find_in span b ks e slot y (Err (OffCurve c)) = note_text b (length ks) slot (bytes "find") OffCurve
find_in span b ks e slot y (Ok p) = at_text span b ks e slot y p

-- whether a basis's knots are all of them depths: where slopes stand between these, or other coefficients, the order check would compare
-- the two
abbrev pub in_depths : Basis → Bool
in_depths Bspline = true
in_depths Bezier = true
in_depths CatmullRom = true
in_depths Hermite = false
in_depths Linear = true
in_depths Power = false

-- the place that is drawn, by the steady method
abbrev pub drawn_of : EndsBy → Basis → Float → List Float → Inversion
drawn_of m b y ks = inverse_by m Steady b y ks (in_depths b) steady_limit default_precision

-- the find of y, in a slot of its own
abbrev pub find_text : ℕ → EndsBy → Basis → List Float → Extent → ℕ → Float → List ℕ
find_text span m b ks e slot y = find_in span b ks e slot y (drawn_of m b y ks)

-- the first i of those that were asked
unfoldable pub finds_text : ℕ → EndsBy → Basis → List Float → Extent → List Float → ℕ → List ℕ
finds_text span m b ks e l zero = []
finds_text span m b ks e l (suc i) = finds_text span m b ks e l i ++ find_text span m b ks e (i + 2) (get_or l i nan)
