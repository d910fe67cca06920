-- Where things stand in the picture, in whole units of its view box, 10,000 wide and 7,000 high. The frame goes from 1,000 to 9,600 and
-- from 400 down to 6,400. Definitions only.
use Rattle.std.specs.Prelude.{Bool, true, cond, ◌&&◌, List, ℕ, zero, suc, ◌+◌, ◌*◌, ◌-◌, ◌/◌, ◌%◌, min, max, leb, ltb, eqb, length, get_or, Float, Ok, Err}
use Rattle.std.specs.Float.{nan, binary64}
use Rattle.std.specs.Float.Ieee.{div, to_bits}
use Rattle.basis.specs.declared.Basis.{Basis}
use Rattle.basis.specs.declared.Basis.TheVariants.{Bspline, Bezier, CatmullRom, Hermite, Linear, Power}
use Rattle.basis.specs.Basis.{segments_of}
use Rattle.doubles.specs.Whole.{double}
use Rattle.spline.specs.Evaluation.{spline_of, Evaluation}
use Rattle.text_rounded.specs.Rounded.{minus_in, size_in, largest, units_of}
use Rattle.picture_scale.specs.declared.Extent.{Extent}

-- ---- heights: whole thousandths, counted from 2·10^12 below 0, so that none is negative

-- the height of 0: a multiple of every step
abbrev pub level : ℕ
level = 2000000000000000

-- a magnitude above 2^40, and NaN, stand as 2^40
unfoldable pub thousandths : ℕ → ℕ
thousandths n = min 1099511627776000 (units_of 3 (min (size_in n) largest))

unfoldable pub height_of : Float → ℕ
height_of x = let n = to_bits binary64 x in cond (minus_in n) (level - thousandths n) (level + thousandths n)

abbrev pub height_in : Evaluation → ℕ
height_in (Ok v) = height_of v
height_in (Err r) = level

-- the curve's height at i/p
unfoldable pub curve_height : Basis → List Float → ℕ → ℕ → ℕ
curve_height b ks p i = height_in (spline_of b (div binary64 (double i) (double p)) ks)

-- ---- across and down

-- i of m parts of the frame's breadth
unfoldable pub column_of : ℕ → ℕ → ℕ
column_of i m = 1000 + min 8600 (cond (eqb m 0) 0 (i * 8600 / m))

-- a height between the least and the greatest that are shown
unfoldable pub row_of : Extent → ℕ → ℕ
row_of e h = 6400 - min 6000 ((h - e.lo) * 6000 / (e.hi - e.lo))

-- ---- points of the curve, and knots

-- 256 a segment, and 2,048 at most
unfoldable pub pieces_of : Basis → ℕ → ℕ
pieces_of b n = min 2048 (256 * segments_of b n)

-- which knots are depths: inner ones where STEP is 1; all of Bezier's; Hermite's points, not its slopes; Power's constant terms
unfoldable pub shown : Basis → ℕ → ℕ → Bool
shown Bspline n j = leb 1 j && ltb (j + 1) n
shown Bezier n j = true
shown CatmullRom n j = leb 1 j && ltb (j + 1) n
shown Hermite n j = eqb (j % 2) 0
shown Linear n j = leb 1 j && ltb (j + 1) n
shown Power n j = eqb (j % 4) 3

-- knot j's place, by the end rule: knot 1 at the start and knot n - 2 at the end where STEP is 1, else knot 0 and knot n - 1;
-- the four of a Power segment stand at its start, a slope of Hermite at its point
unfoldable pub knot_column : Basis → ℕ → ℕ → ℕ
knot_column Bspline n j = column_of (j - 1) (n - 3)
knot_column Bezier n j = column_of j (n - 1)
knot_column CatmullRom n j = column_of (j - 1) (n - 3)
knot_column Hermite n j = column_of (j / 2) (n / 2 - 1)
knot_column Linear n j = column_of (j - 1) (n - 3)
knot_column Power n j = column_of (j / 4) (n / 4)

-- ---- the least and the greatest height

abbrev pub extent_at : ℕ → ℕ → Extent
extent_at l h = record { lo = l; hi = h }

abbrev pub widened : Extent → ℕ → Extent
widened e h = extent_at (min e.lo h) (max e.hi h)

-- of the curve at 0/p to i/p
unfoldable pub curve_extent : Basis → List Float → ℕ → ℕ → Extent
curve_extent b ks p zero = extent_at (curve_height b ks p 0) (curve_height b ks p 0)
curve_extent b ks p (suc i) = widened (curve_extent b ks p i) (curve_height b ks p (suc i))

-- with knot j of n, if it is shown
abbrev pub with_knot : Basis → ℕ → ℕ → Float → Extent → Extent
with_knot b n j x e = cond (shown b n j) (widened e (height_of x)) e

-- and with the first j knots
unfoldable pub knots_extent : Basis → List Float → Extent → ℕ → Extent
knots_extent b ks e zero = e
knots_extent b ks e (suc j) = with_knot b (length ks) j (get_or ks j nan) (knots_extent b ks e j)

-- of both, and a thousandth more on either side
unfoldable pub extent_of : Basis → List Float → Extent
extent_of b ks =
    let p = pieces_of b (length ks) in
    let e = knots_extent b ks (curve_extent b ks p p) (length ks) in
    extent_at (e.lo - 1) (e.hi + 1)

-- ---- round labels

-- the step from label to label, for a stretch r: 1, 2 or 5 times a power of ten
unfoldable pub step_of : ℕ → ℕ → ℕ
step_of zero r = 1
step_of (suc k) r = cond (leb r 5) 1 (cond (leb r 10) 2 (cond (leb r 25) 5 (10 * step_of k (r / 10))))

-- the first multiple of the step above l
unfoldable pub above_of : ℕ → ℕ → ℕ
above_of l s = l + (s - l % s)
