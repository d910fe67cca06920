-- One segment's evaluation rounds nothing where its knots are whole, its matrix has halves and its place is a number of 256ths: each product and each sum is a
-- whole number
-- of 2^-25ths below 2^53, and so a double. Stated once over matrix and knots. Assumes nothing.
use mathlib.Core.Path.{◌≡◌, refl, subst}
use mathlib.Core.List.{List, []}
use mathlib.Core.Bool.{Bool, true, false, ◌&&◌}
use Prim.Native.Nat.{ℕ, zero, suc, ◌*◌, ◌^◌, ◌≤◌}
use native.Mathlib.Omega.{arith}
use lib.IntN.{ℤ, pos, negsuc, nat_abs}
use lib.Dec.{T, leb, eqb, leb→le, eqb→eq, lit≤, lit<}
use lib.ListN.{length, get_or}
use lib.Ieee.{Float, nan, inf, fin, up, down}
use lib.Ieee.Fits.{and_l, and_r}
use Rattle.basis.specs.declared.Basis.{Basis}
use Rattle.basis.specs.declared.Basis.TheVariants.{Bspline, Bezier, CatmullRom, Hermite, Linear, Power}
use Rattle.basis.specs.Basis.{matrix_of}
use Rattle.spline.specs.Segment.{row_sum, segment_value}
use Rattle.doubles.specs.Number.{signed, Number}
use Rattle.spline_exact.specs.Cubic.{at, whole_sum, cubic}
use Rattle.doubles.proofs.Exact.{Exactly, forget, of_number, finer, times, plus}
use Rattle.spline_exact.specs.Exact.{is_exact, twice, exact_of, parts, WholeKnots}
use Rattle.spline_exact.proofs.Horner.{horner}

-- ---- four numbers in parts of 2^p, each of at most so many
pub record Four (p most : ℕ) (l : List Float) (z : List ℤ) : Type 0 where
  pub n0 : Exactly (get_or l 0 nan) (at z 0) p most
  pub n1 : Exactly (get_or l 1 nan) (at z 1) p most
  pub n2 : Exactly (get_or l 2 nan) (at z 2) p most
  pub n3 : Exactly (get_or l 3 nan) (at z 3) p most

-- a matrix of halves
pub record Halves (m : List (List Float)) (h : List (List ℤ)) : Type 0 where
  pub r0 : Four 1 12 (get_or m 0 []) (get_or h 0 [])
  pub r1 : Four 1 12 (get_or m 1 []) (get_or h 1 [])
  pub r2 : Four 1 12 (get_or m 2 []) (get_or h 2 [])
  pub r3 : Four 1 12 (get_or m 3 []) (get_or h 3 [])

row_exact : (cv r : List Float) (z h : List ℤ) → Four 0 1048576 cv z → Four 1 12 r h → Exactly (row_sum cv r) (whole_sum z h) 1 50331648
unfolding whole_sum
row_exact cv r z h k e =
    let p0 = times (lit< tt) (lit≤ tt) k.n0 e.n0 in
    let p1 = times (lit< tt) (lit≤ tt) k.n1 e.n1 in
    let p2 = times (lit< tt) (lit≤ tt) k.n2 e.n2 in
    let p3 = times (lit< tt) (lit≤ tt) k.n3 e.n3 in
    plus (lit< tt) (lit≤ tt) (plus (lit< tt) (lit≤ tt) (plus (lit< tt) (lit≤ tt) p0 p1) p2) p3

pub segment_exactly : (m : List (List Float)) (h : List (List ℤ)) (cv : List Float) (z : List ℤ) (t : Float) (j : ℕ) → Halves m h → Four 0 1048576 cv z
    → Exactly t (pos j) 8 256 → Exactly (segment_value m cv t) (cubic h z j) 25 3377699720527872
unfolding cubic
segment_exactly m h cv z t j s k u =
    let w0 = row_exact cv (get_or m 0 []) z (get_or h 0 []) k s.r0 in
    let w1 = row_exact cv (get_or m 1 []) z (get_or h 1 []) k s.r1 in
    let w2 = row_exact cv (get_or m 2 []) z (get_or h 2 []) k s.r2 in
    let w3 = row_exact cv (get_or m 3 []) z (get_or h 3 []) k s.r3 in
    let b = plus (lit< tt) (lit≤ tt) (times (lit< tt) (lit≤ tt) w0 u) (finer 8 w1) in
    let d = plus (lit< tt) (lit≤ tt) (times (lit< tt) (lit≤ tt) b u) (finer 16 w2) in
    let v = plus (lit< tt) (lit≤ tt) (times (lit< tt) (lit≤ tt) d u) (finer 24 w3) in
    subst (λ (y : ℤ). Exactly (segment_value m cv t) y 25 3377699720527872)
    (horner (whole_sum z (get_or h 0 [])) (whole_sum z (get_or h 1 [])) (whole_sum z (get_or h 2 [])) (whole_sum z (get_or h 3 [])) 256 (256 * 256)
    (256 * 256 * 256) j) v

-- the double, multiplied by 2^25, is the whole number that the cubic gives
pub segment_exact : (m : List (List Float)) (h : List (List ℤ)) (cv : List Float) (z : List ℤ) (t : Float) (j : ℕ) → Halves m h → Four 0 1048576 cv z
    → Exactly t (pos j) 8 256 → Number (segment_value m cv t) (cubic h z j) 25
segment_exact m h cv z t j s k u = forget (segment_exactly m h cv z t j s k u)

-- ---- the five bases: a test that is computed
abbrev agrees : Bool → ℤ → Bool
agrees false (pos n) = true
agrees true (pos zero) = true
agrees true (negsuc n) = true
agrees true (pos (suc n)) = false
agrees false (negsuc n) = false

agree : (s : Bool) (z : ℤ) → T (agrees s z) → signed s (nat_abs z) ≡ z
agree false (pos n) t = refl
agree true (pos zero) t = refl
agree true (negsuc n) t = refl
agree true (pos (suc n)) t = absurd t
agree false (negsuc n) t = absurd t

abbrev half : Float → ℤ → Bool
half nan z = false
half (inf s) z = false
half (fin s m e) z = eqb (m * up e * 2 ^ 1) (nat_abs z * down e) && (agrees s z && leb (nat_abs z) 12)

half_exactly : (x : Float) (z : ℤ) → T (half x z) → Exactly x z 1 12
half_exactly nan z t = absurd t
half_exactly (inf s) z t = absurd t
half_exactly (fin s m e) z t =
    let a = eqb (m * up e * 2 ^ 1) (nat_abs z * down e) in
    let b = agrees s z in
    let c = leb (nat_abs z) 12 in
    let bc = and_r a (b && c) t in
    record {
      sign = s;
      size = nat_abs z;
      is = (refl, eqb→eq (m * up e * 2 ^ 1) (nat_abs z * down e) (and_l a (b && c) t));
      same = agree s z (and_l b c bc);
      few = leb→le (nat_abs z) 12 (and_r b c bc);
    }

abbrev half_row : List Float → List ℤ → Bool
half_row r h = half (get_or r 0 nan) (at h 0) && (half (get_or r 1 nan) (at h 1) && (half (get_or r 2 nan) (at h 2) && half (get_or r 3 nan) (at h 3)))

half_row_lem : (r : List Float) (h : List ℤ) → T (half_row r h) → Four 1 12 r h
half_row_lem r h t =
    let a = half (get_or r 0 nan) (at h 0) in
    let b = half (get_or r 1 nan) (at h 1) in
    let c = half (get_or r 2 nan) (at h 2) in
    let d = half (get_or r 3 nan) (at h 3) in
    let t1 = and_r a (b && (c && d)) t in
    let t2 = and_r b (c && d) t1 in
    record {
      n0 = half_exactly (get_or r 0 nan) (at h 0) (and_l a (b && (c && d)) t);
      n1 = half_exactly (get_or r 1 nan) (at h 1) (and_l b (c && d) t1);
      n2 = half_exactly (get_or r 2 nan) (at h 2) (and_l c d t2);
      n3 = half_exactly (get_or r 3 nan) (at h 3) (and_r c d t2);
    }

abbrev half_matrix : List (List Float) → List (List ℤ) → Bool
half_matrix m h =
    half_row (get_or m 0 []) (get_or h 0 []) &&
    (half_row (get_or m 1 []) (get_or h 1 []) && (half_row (get_or m 2 []) (get_or h 2 []) && half_row (get_or m 3 []) (get_or h 3 [])))

half_matrix_lem : (m : List (List Float)) (h : List (List ℤ)) → T (half_matrix m h) → Halves m h
half_matrix_lem m h t =
    let a = half_row (get_or m 0 []) (get_or h 0 []) in
    let b = half_row (get_or m 1 []) (get_or h 1 []) in
    let c = half_row (get_or m 2 []) (get_or h 2 []) in
    let d = half_row (get_or m 3 []) (get_or h 3 []) in
    let t1 = and_r a (b && (c && d)) t in
    let t2 = and_r b (c && d) t1 in
    record {
      r0 = half_row_lem (get_or m 0 []) (get_or h 0 []) (and_l a (b && (c && d)) t);
      r1 = half_row_lem (get_or m 1 []) (get_or h 1 []) (and_l b (c && d) t1);
      r2 = half_row_lem (get_or m 2 []) (get_or h 2 []) (and_l c d t2);
      r3 = half_row_lem (get_or m 3 []) (get_or h 3 []) (and_r c d t2);
    }

halves : (b : Basis) → T (is_exact b) → T (half_matrix (matrix_of b) (twice b))
unfolding matrix_of
halves Bspline t = t
halves Bezier t = tt
halves CatmullRom t = tt
halves Hermite t = tt
halves Linear t = tt
halves Power t = tt

-- four whole knots, up to 2^20 in magnitude
whole_knots : (cv : List Float) (z : List ℤ) → 4 ≤ length cv → WholeKnots cv z → Four 0 1048576 cv z
whole_knots cv z l k =
    record {
      n0 = of_number 1048576 (k.small 0 (omega arith)) (k.whole 0 (omega arith));
      n1 = of_number 1048576 (k.small 1 (omega arith)) (k.whole 1 (omega arith));
      n2 = of_number 1048576 (k.small 2 (omega arith)) (k.whole 2 (omega arith));
      n3 = of_number 1048576 (k.small 3 (omega arith)) (k.whole 3 (omega arith));
    }

-- at j/256: 2^25 times the double is the whole number, and so nothing was rounded
pub whole_knots_exact : (b : Basis) → T (is_exact b) → (cv : List Float) (z : List ℤ) (t : Float) (j : ℕ) → 4 ≤ length cv → WholeKnots cv z
    → Number t (pos j) 8 → j ≤ 256
    → Number (segment_value (matrix_of b) cv t) (exact_of b z j) parts
whole_knots_exact b w cv z t j l k u h =
    segment_exact (matrix_of b) (twice b) cv z t j (half_matrix_lem (matrix_of b) (twice b) (halves b w)) (whole_knots cv z l k) (of_number 256 h u)
