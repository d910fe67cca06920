-- A segment: four knots, row sums added left to right in knot order, and the cubic by Horner's rule. Definitions only.
use Rattle.std.specs.Prelude.{List, [], ◌∷◌, ◌++◌, ℕ, ◌*◌, get_or, drop, Float}
use Rattle.std.specs.Float.{nan, binary64}
use Rattle.std.specs.Float.Ieee.{add, mul}
use Rattle.basis.specs.declared.Basis.{Basis}
use Rattle.basis.specs.Basis.{step_of, matrix_of}
use Rattle.spline.specs.declared.RowSums.{RowSums}

-- c0·m0 + c1·m1 + c2·m2 + c3·m3
abbrev pub row_sum : List Float → List Float → Float
row_sum cv r =
    add binary64
    (add binary64
    (add binary64
    (mul binary64 (get_or cv 0 nan) (get_or r 0 nan))
    (mul binary64 (get_or cv 1 nan) (get_or r 1 nan)))
    (mul binary64 (get_or cv 2 nan) (get_or r 2 nan)))
    (mul binary64 (get_or cv 3 nan) (get_or r 3 nan))

-- the four row sums w0 to w3
abbrev pub row_sums_of : List (List Float) → List Float → RowSums
row_sums_of m cv =
    record { w0 = row_sum cv (get_or m 0 []); w1 = row_sum cv (get_or m 1 []); w2 = row_sum cv (get_or m 2 []); w3 = row_sum cv (get_or m 3 []) }

-- ((w0·t + w1)·t + w2)·t + w3
abbrev pub horner_of : RowSums → Float → Float
horner_of w t = add binary64 (mul binary64 (add binary64 (mul binary64 (add binary64 (mul binary64 w.w0 t) w.w1) t) w.w2) t) w.w3

abbrev pub segment_value : List (List Float) → List Float → Float → Float
segment_value m cv t = horner_of (row_sums_of m cv) t

-- segment s is the four knots from place s × STEP onward
abbrev pub segment_of : Basis → List Float → ℕ → Float → Float
segment_of b ks s t = segment_value (matrix_of b) (drop (s * step_of b) ks) t

-- every product and every sum of a segment's value, as rounded
unfoldable pub row_steps : List Float → List Float → List Float
row_steps cv r =
    let p0 = mul binary64 (get_or cv 0 nan) (get_or r 0 nan) in
    let p1 = mul binary64 (get_or cv 1 nan) (get_or r 1 nan) in
    let p2 = mul binary64 (get_or cv 2 nan) (get_or r 2 nan) in
    let p3 = mul binary64 (get_or cv 3 nan) (get_or r 3 nan) in
    p0 ∷ p1 ∷ add binary64 p0 p1 ∷ p2 ∷ add binary64 (add binary64 p0 p1) p2 ∷ p3 ∷ row_sum cv r ∷ []

unfoldable pub horner_steps : RowSums → Float → List Float
horner_steps w t =
    let a = mul binary64 w.w0 t in
    let b = add binary64 a w.w1 in
    let c = mul binary64 b t in
    let d = add binary64 c w.w2 in
    let e = mul binary64 d t in
    a ∷ b ∷ c ∷ d ∷ e ∷ horner_of w t ∷ []

unfoldable pub segment_steps : List (List Float) → List Float → Float → List Float
segment_steps m cv t =
    row_steps cv (get_or m 0 []) ++ row_steps cv (get_or m 1 []) ++ row_steps cv (get_or m 2 []) ++ row_steps cv (get_or m 3 []) ++ horner_steps
    (row_sums_of m cv) t
