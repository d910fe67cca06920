-- Every rounded step of a segment's value is finite, where the knots are within 2^40, the matrix's entries within 2^3 and t lies in 0 to 1. Assumes nothing.
use mathlib.Core.List.{List, [], ◌∷◌, ◌++◌}
use mathlib.Core.Bool.{Bool, false, ◌&&◌}
use Prim.Native.Nat.{ℕ, zero, suc, ◌+◌, ◌*◌, ◌^◌, ◌≤◌, ◌<◌}
use native.Mathlib.Omega.{arith}
use lib.Dec.{T, leb, leb→le, lit≤, lit<}
use lib.ListN.{length, get_or, drop}
use lib.Seq.{get_or-drop}
use lib.Ieee.{Float, nan, inf, fin, up, down, neg, le}
use lib.Ieee.Fits.{and_l, and_r}
use Rattle.basis.specs.declared.Basis.{Basis}
use Rattle.basis.specs.declared.Basis.TheVariants.{Bspline, Bezier, CatmullRom, Hermite, Linear, Power}
use Rattle.basis.specs.Basis.{matrix_of}
use Rattle.doubles.specs.Numbers.{nought, one}
use Rattle.doubles.proofs.Bounds.{Size, Within, times, plus, between_within, unit_within}
use Rattle.spline.specs.declared.RowSums.{RowSums}
use Rattle.spline.specs.Segment.{row_sum, row_steps, horner_of, horner_steps, row_sums_of, segment_value, segment_steps}
use Rattle.checks.specs.Checks.{bound, in_range, all_in_range}

-- ---- the knots: four doubles within 2 ^ a
pub record Four (a : ℕ) (l : List Float) : Type 0 where
  pub p0 : Within a (get_or l 0 nan)
  pub p1 : Within a (get_or l 1 nan)
  pub p2 : Within a (get_or l 2 nan)
  pub p3 : Within a (get_or l 3 nan)

in_range_within : (x : Float) → T (in_range x) → Within 40 x
unfolding in_range neg
in_range_within x h = between_within 40 x (and_l (le (neg bound) x) (le x bound) h) (and_r (le (neg bound) x) (le x bound) h)

knot_within : (ks : List Float) (i : ℕ) → T (all_in_range ks) → i < length ks → Within 40 (get_or ks i nan)
unfolding all_in_range
knot_within [] i t h = absurd (omega arith)
knot_within (x ∷ xs) zero t h = in_range_within x (and_l (in_range x) (all_in_range xs) t)
knot_within (x ∷ xs) (suc i) t h = knot_within xs i (and_r (in_range x) (all_in_range xs) t) (omega arith)

pub knots_within : (ks : List Float) (i : ℕ) → T (all_in_range ks) → i + 4 ≤ length ks → Four 40 (drop i ks)
knots_within ks i t h =
    record {
      p0 = rw get_or-drop (knot_within ks (i + 0) t (omega arith));
      p1 = rw get_or-drop (knot_within ks (i + 1) t (omega arith));
      p2 = rw get_or-drop (knot_within ks (i + 2) t (omega arith));
      p3 = rw get_or-drop (knot_within ks (i + 3) t (omega arith));
    }

-- ---- a matrix whose entries are within 2 ^ a, by one computed test
abbrev small : ℕ → Float → Bool
small a nan = false
small a (inf s) = false
small a (fin s m e) = leb (m * up e) (2 ^ a * down e)

small_size : (a : ℕ) (x : Float) → T (small a x) → Size a x
small_size a nan h = h
small_size a (inf s) h = h
small_size a (fin s m e) h = leb→le (m * up e) (2 ^ a * down e) h

abbrev small_row : ℕ → List Float → Bool
small_row a r = small a (get_or r 0 nan) && (small a (get_or r 1 nan) && (small a (get_or r 2 nan) && small a (get_or r 3 nan)))

abbrev pub small_matrix : ℕ → List (List Float) → Bool
small_matrix a m = small_row a (get_or m 0 []) && (small_row a (get_or m 1 []) && (small_row a (get_or m 2 []) && small_row a (get_or m 3 [])))

small_row_lem : (a : ℕ) (r : List Float) → T (small_row a r) → Four a r
small_row_lem a r h =
    let t0 = small a (get_or r 0 nan) in
    let t1 = small a (get_or r 1 nan) in
    let t2 = small a (get_or r 2 nan) in
    let t3 = small a (get_or r 3 nan) in
    let h1 = and_r t0 (t1 && (t2 && t3)) h in
    let h2 = and_r t1 (t2 && t3) h1 in
    record {
      p0 = record { held = small_size a (get_or r 0 nan) (and_l t0 (t1 && (t2 && t3)) h) };
      p1 = record { held = small_size a (get_or r 1 nan) (and_l t1 (t2 && t3) h1) };
      p2 = record { held = small_size a (get_or r 2 nan) (and_l t2 t3 h2) };
      p3 = record { held = small_size a (get_or r 3 nan) (and_r t2 t3 h2) };
    }

pub record Small (a : ℕ) (m : List (List Float)) : Type 0 where
  pub r0 : Four a (get_or m 0 [])
  pub r1 : Four a (get_or m 1 [])
  pub r2 : Four a (get_or m 2 [])
  pub r3 : Four a (get_or m 3 [])

pub small_matrix_lem : (a : ℕ) (m : List (List Float)) → T (small_matrix a m) → Small a m
small_matrix_lem a m h =
    let t0 = small_row a (get_or m 0 []) in
    let t1 = small_row a (get_or m 1 []) in
    let t2 = small_row a (get_or m 2 []) in
    let t3 = small_row a (get_or m 3 []) in
    let h1 = and_r t0 (t1 && (t2 && t3)) h in
    let h2 = and_r t1 (t2 && t3) h1 in
    record {
      r0 = small_row_lem a (get_or m 0 []) (and_l t0 (t1 && (t2 && t3)) h);
      r1 = small_row_lem a (get_or m 1 []) (and_l t1 (t2 && t3) h1);
      r2 = small_row_lem a (get_or m 2 []) (and_l t2 t3 h2);
      r3 = small_row_lem a (get_or m 3 []) (and_r t2 t3 h2);
    }

bases_small : (b : Basis) → T (small_matrix 3 (matrix_of b))
unfolding matrix_of
bases_small Bspline = tt
bases_small Bezier = tt
bases_small CatmullRom = tt
bases_small Hermite = tt
bases_small Linear = tt
bases_small Power = tt

basis_small : (b : Basis) → Small 3 (matrix_of b)
basis_small b = small_matrix_lem 3 (matrix_of b) (bases_small b)

-- ---- every step is finite. A data type, so that antt finds the list from a proof
pub data Finite : List Float → Type 0 where
  none : Finite []
  more : {a : ℕ} {x : Float} {xs : List Float} → Within a x → Finite xs → Finite (x ∷ xs)

pub joined : {xs ys : List Float} → Finite xs → Finite ys → Finite (xs ++ ys)
joined none q = q
joined (more w p) q = more w (joined p q)

-- a row: four products and three sums; the entries within 2 ^ a
pub record Row (a : ℕ) (cv r : List Float) : Type 0 where
  pub within : Within (suc (suc (suc (40 + a)))) (row_sum cv r)
  pub steps : Finite (row_steps cv r)

pub row_finite : (a : ℕ) (cv r : List Float) → a ≤ 900 → Four 40 cv → Four a r → Row a cv r
unfolding row_steps
row_finite a cv r h k e =
    let p0 = times (omega arith) k.p0 e.p0 in
    let p1 = times (omega arith) k.p1 e.p1 in
    let p2 = times (omega arith) k.p2 e.p2 in
    let p3 = times (omega arith) k.p3 e.p3 in
    let s1 = plus (40 + a) (omega arith) (omega arith) (omega arith) p0 p1 in
    let s2 = plus (suc (40 + a)) (omega arith) (omega arith) (omega arith) s1 p2 in
    let s3 = plus (suc (suc (40 + a))) (omega arith) (omega arith) (omega arith) s2 p3 in
    record {
      within = s3;
      steps = more p0 (more p1 (more s1 (more p2 (more s2 (more p3 (more s3 none))))));
    }

horner_finite : (w : RowSums) {t : Float} → Within 0 t → Within 46 w.w0 → Within 46 w.w1 → Within 46 w.w2 → Within 46 w.w3
    → Within 49 (horner_of w t) × Finite (horner_steps w t)
unfolding horner_steps
horner_finite w u x0 x1 x2 x3 =
    let a = times {a = 46} {b = 0} (lit≤ tt) x0 u in
    let b = plus 46 (lit≤ tt) (lit≤ tt) (lit< tt) a x1 in
    let c = times {a = 47} {b = 0} (lit≤ tt) b u in
    let d = plus 47 (lit≤ tt) (lit≤ tt) (lit< tt) c x2 in
    let e = times {a = 48} {b = 0} (lit≤ tt) d u in
    let v = plus 48 (lit≤ tt) (lit≤ tt) (lit< tt) e x3 in
    (v, more a (more b (more c (more d (more e (more v none))))))

pub segment_finite : (b : Basis) (cv : List Float) (t : Float) → Four 40 cv → T (le nought t) → T (le t one)
    → Within 49 (segment_value (matrix_of b) cv t) × Finite (segment_steps (matrix_of b) cv t)
unfolding segment_steps
segment_finite b cv t k l h =
    let m = matrix_of b in
    let s = basis_small b in
    let p = row_finite 3 cv (get_or m 0 []) (lit≤ tt) k s.r0 in
    let q = row_finite 3 cv (get_or m 1 []) (lit≤ tt) k s.r1 in
    let r = row_finite 3 cv (get_or m 2 []) (lit≤ tt) k s.r2 in
    let z = row_finite 3 cv (get_or m 3 []) (lit≤ tt) k s.r3 in
    let v = horner_finite (row_sums_of m cv) (unit_within t l h) p.within q.within r.within z.within in
    (v.0, joined (joined (joined (joined p.steps q.steps) r.steps) z.steps) v.1)
