-- The three slopes as differences of numbers that are not negative: the test, and each basis's own. Assumes nothing.
use mathlib.Core.Path.{◌≡◌, sym, ap, ◌∙◌}
use mathlib.Core.Bool.{Bool, true, false}
use mathlib.Core.List.{List, [], ◌∷◌}
use Prim.Native.Nat.{ℕ, suc, ◌+◌, ◌-◌, ◌*◌, ◌≤◌, ◌<◌}
use native.Mathlib.Omega.{arith}
use lib.IntN.{ℤ, sub_ℕ}
use lib.ListN.{get_or}
use lib.Dec.{leb}
use borrow.Author.Tests.{lt-ltb, le-ltb}
use Rattle.basis.specs.declared.Basis.{Basis}
use Rattle.basis.specs.declared.Basis.TheVariants.{Bspline, Bezier, CatmullRom, Hermite, Linear, Power}
use Rattle.basis.specs.Basis.{whole_of}
use Rattle.spline_exact.specs.Cubic.{at, whole_sum}
use Rattle.turns_back.specs.Curve.{value_at, never_falls, cubic_never_falls}
use Rattle.turns_back.specs.Call.{most}
use Rattle.turns_back.specs.Four.{four_never_fall, four_at}
use Rattle.whole.proofs.Differences.{up, down, Is, sub_is, is_sub, other, plus, times, by}

-- ---- the test
module _ (p0 n0 p1 n1 p2 n2 : ℕ) where
  pub first_falls : p0 < n0 → false ≡ never_falls (sub_ℕ p0 n0) (sub_ℕ p1 n1) (sub_ℕ p2 n2)
  unfolding never_falls
  first_falls h = simp (lt-ltb p0 n0 h)

  pub last_falls : n0 ≤ p0 → p2 < n2 → false ≡ never_falls (sub_ℕ p0 n0) (sub_ℕ p1 n1) (sub_ℕ p2 n2)
  unfolding never_falls
  last_falls h k = simp (le-ltb p0 n0 h, lt-ltb p2 n2 k)

  pub none_falls : n0 ≤ p0 → n2 ≤ p2 → n1 ≤ p1 → true ≡ never_falls (sub_ℕ p0 n0) (sub_ℕ p1 n1) (sub_ℕ p2 n2)
  unfolding never_falls
  none_falls h k l = simp (le-ltb p0 n0 h, le-ltb p2 n2 k, le-ltb p1 n1 l)

  pub middle_falls : n0 ≤ p0 → n2 ≤ p2 → p1 < n1
      → leb ((n1 - p1) * (n1 - p1)) ((p0 - n0) * (p2 - n2)) ≡ never_falls (sub_ℕ p0 n0) (sub_ℕ p1 n1) (sub_ℕ p2 n2)
  unfolding never_falls
  middle_falls h k l =
      let e : n1 - p1 ≡ suc (n1 - suc p1) = omega arith in
      simp (le-ltb p0 n0 h, le-ltb p2 n2 k, lt-ltb p1 n1 l) (ap (λ (v : ℕ). leb (v * v) ((p0 - n0) * (p2 - n2))) e)

alike : {x y z x' y' z' : ℤ} → x ≡ x' → y ≡ y' → z ≡ z' → never_falls x y z ≡ never_falls x' y' z'
alike p q r = cc

-- ---- a row of a matrix over four knots, each raised by `most`
module _ (k0 k1 k2 k3 : ℕ) where
  abbrev pub four : List ℤ
  four = sub_ℕ k0 most ∷ sub_ℕ k1 most ∷ sub_ℕ k2 most ∷ sub_ℕ k3 most ∷ []

  abbrev pub added : List ℤ → ℕ
  added r =
      k0 * up (at r 0) + most * down (at r 0) + (k1 * up (at r 1) + most * down (at r 1)) + (k2 * up (at r 2) + most * down (at r 2))
      + (k3 * up (at r 3) + most * down (at r 3))

  abbrev pub taken : List ℤ → ℕ
  taken r =
      k0 * down (at r 0) + most * up (at r 0) + (k1 * down (at r 1) + most * up (at r 1)) + (k2 * down (at r 2) + most * up (at r 2))
      + (k3 * down (at r 3) + most * up (at r 3))

  pub row_is : (r : List ℤ) → Is (whole_sum four r) (added r) (taken r)
  unfolding whole_sum
  row_is r =
      plus (plus (plus (by (at r 0) (sub_is k0 most)) (by (at r 1) (sub_is k1 most))) (by (at r 2) (sub_is k2 most))) (by (at r 3) (sub_is k3 most))

  -- the code's slopes are the cubic's
  pub slopes : (b : Basis) (p0 n0 p1 n1 p2 n2 : ℕ)
      → let r0 = get_or (whole_of b) 0 [] in let r1 = get_or (whole_of b) 1 [] in let r2 = get_or (whole_of b) 2 [] in
      added r2 + n0 ≡ p0 + taken r2 → added r1 + added r2 + n1 ≡ p1 + (taken r1 + taken r2)
      → added r0 * 3 + added r1 * 2 + added r2 + n2 ≡ p2 + (taken r0 * 3 + taken r1 * 2 + taken r2)
      → never_falls (sub_ℕ p0 n0) (sub_ℕ p1 n1) (sub_ℕ p2 n2) ≡ four_never_fall b four
  unfolding four_never_fall cubic_never_falls
  slopes b p0 n0 p1 n1 p2 n2 e0 e1 e2 =
      let r0 = row_is (get_or (whole_of b) 0 []) in
      let r1 = row_is (get_or (whole_of b) 1 []) in
      let r2 = row_is (get_or (whole_of b) 2 []) in
      let s0 = is_sub (other p0 n0 r2 e0) in
      let s1 = is_sub (other p1 n1 (plus r1 r2) e1) in
      let s2 = is_sub (other p2 n2 (plus (plus (times 3 r0) (times 2 r1)) r2) e2) in
      alike s0 s1 s2

  -- ---- each basis's own
  pub of_bspline : never_falls (sub_ℕ (3 * k2) (3 * k0)) (sub_ℕ (6 * k2) (6 * k1)) (sub_ℕ (3 * k3) (3 * k1)) ≡ four_never_fall Bspline four
  of_bspline = slopes Bspline (3 * k2) (3 * k0) (6 * k2) (6 * k1) (3 * k3) (3 * k1) (omega arith) (omega arith) (omega arith)

  pub of_bezier : never_falls (sub_ℕ (3 * k1) (3 * k0)) (sub_ℕ (3 * k2) (3 * k1)) (sub_ℕ (3 * k3) (3 * k2)) ≡ four_never_fall Bezier four
  of_bezier = slopes Bezier (3 * k1) (3 * k0) (3 * k2) (3 * k1) (3 * k3) (3 * k2) (omega arith) (omega arith) (omega arith)

  pub of_catmull_rom : never_falls (sub_ℕ k2 k0) (sub_ℕ (k0 + 5 * k2) (5 * k1 + k3)) (sub_ℕ k3 k1) ≡ four_never_fall CatmullRom four
  of_catmull_rom = slopes CatmullRom k2 k0 (k0 + 5 * k2) (5 * k1 + k3) k3 k1 (omega arith) (omega arith) (omega arith)

  pub of_hermite : never_falls (sub_ℕ k1 most) (sub_ℕ (3 * k2 + 2000000000000) (3 * k0 + k1 + k3)) (sub_ℕ k3 most) ≡ four_never_fall Hermite four
  of_hermite = slopes Hermite k1 most (3 * k2 + 2000000000000) (3 * k0 + k1 + k3) k3 most (omega arith) (omega arith) (omega arith)

  pub of_linear : never_falls (sub_ℕ k2 k1) (sub_ℕ k2 k1) (sub_ℕ k2 k1) ≡ four_never_fall Linear four
  of_linear = slopes Linear k2 k1 k2 k1 k2 k1 (omega arith) (omega arith) (omega arith)

  pub of_power : never_falls (sub_ℕ k2 most) (sub_ℕ (k1 + k2) 2000000000000) (sub_ℕ (3 * k0 + 2 * k1 + k2) 6000000000000) ≡ four_never_fall Power four
  of_power = slopes Power k2 most (k1 + k2) 2000000000000 (3 * k0 + 2 * k1 + k2) 6000000000000 (omega arith) (omega arith) (omega arith)

  -- in the arm of a basis
  pub in_arm : (b c : Basis) {x y : Bool} → b ≡ c → x ≡ y → y ≡ four_never_fall c four → x ≡ four_never_fall b four
  in_arm b c e h k = h ∙ k ∙ ap (λ (d : Basis). four_never_fall d four) (sym e)

  -- ---- the ends, raised by 6 × 10^12
  value_four : (b : Basis) (n j : ℕ)
      → Is (four_at b four n j)
      (added (get_or (whole_of b) 0 []) * (j * j * j) + added (get_or (whole_of b) 1 []) * (n * j * j) + added (get_or (whole_of b) 2 []) * (n * n * j) + added
      (get_or (whole_of b) 3 []) * (n * n * n))
      (taken (get_or (whole_of b) 0 []) * (j * j * j) + taken (get_or (whole_of b) 1 []) * (n * j * j) + taken (get_or (whole_of b) 2 []) * (n * n * j) + taken
      (get_or (whole_of b) 3 []) * (n * n * n))
  unfolding four_at value_at
  value_four b n j =
      plus (plus (plus (times (j * j * j) (row_is (get_or (whole_of b) 0 []))) (times (n * j * j) (row_is (get_or (whole_of b) 1 []))))
      (times (n * n * j) (row_is (get_or (whole_of b) 2 []))))
      (times (n * n * n) (row_is (get_or (whole_of b) 3 [])))

  pub start_bspline : sub_ℕ (k0 + 4 * k1 + k2) 6000000000000 ≡ four_at Bspline four 1 0
  start_bspline = is_sub (other (k0 + 4 * k1 + k2) 6000000000000 (value_four Bspline 1 0) (omega arith))

  pub start_bezier : sub_ℕ (k0 + 5000000000000) 6000000000000 ≡ four_at Bezier four 1 0
  start_bezier = is_sub (other (k0 + 5000000000000) 6000000000000 (value_four Bezier 1 0) (omega arith))

  pub start_catmull_rom : sub_ℕ (2 * k1 + 4000000000000) 6000000000000 ≡ four_at CatmullRom four 1 0
  start_catmull_rom = is_sub (other (2 * k1 + 4000000000000) 6000000000000 (value_four CatmullRom 1 0) (omega arith))

  pub start_hermite : sub_ℕ (k0 + 5000000000000) 6000000000000 ≡ four_at Hermite four 1 0
  start_hermite = is_sub (other (k0 + 5000000000000) 6000000000000 (value_four Hermite 1 0) (omega arith))

  pub start_linear : sub_ℕ (k1 + 5000000000000) 6000000000000 ≡ four_at Linear four 1 0
  start_linear = is_sub (other (k1 + 5000000000000) 6000000000000 (value_four Linear 1 0) (omega arith))

  pub start_power : sub_ℕ (k3 + 5000000000000) 6000000000000 ≡ four_at Power four 1 0
  start_power = is_sub (other (k3 + 5000000000000) 6000000000000 (value_four Power 1 0) (omega arith))

  pub end_bspline : sub_ℕ (k1 + 4 * k2 + k3) 6000000000000 ≡ four_at Bspline four 1 1
  end_bspline = is_sub (other (k1 + 4 * k2 + k3) 6000000000000 (value_four Bspline 1 1) (omega arith))

  pub end_bezier : sub_ℕ (k3 + 5000000000000) 6000000000000 ≡ four_at Bezier four 1 1
  end_bezier = is_sub (other (k3 + 5000000000000) 6000000000000 (value_four Bezier 1 1) (omega arith))

  pub end_catmull_rom : sub_ℕ (2 * k2 + 4000000000000) 6000000000000 ≡ four_at CatmullRom four 1 1
  end_catmull_rom = is_sub (other (2 * k2 + 4000000000000) 6000000000000 (value_four CatmullRom 1 1) (omega arith))

  pub end_hermite : sub_ℕ (k2 + 5000000000000) 6000000000000 ≡ four_at Hermite four 1 1
  end_hermite = is_sub (other (k2 + 5000000000000) 6000000000000 (value_four Hermite 1 1) (omega arith))

  pub end_linear : sub_ℕ (k2 + 5000000000000) 6000000000000 ≡ four_at Linear four 1 1
  end_linear = is_sub (other (k2 + 5000000000000) 6000000000000 (value_four Linear 1 1) (omega arith))

  pub end_power : sub_ℕ (k0 + k1 + k2 + k3 + 2000000000000) 6000000000000 ≡ four_at Power four 1 1
  end_power = is_sub (other (k0 + k1 + k2 + k3 + 2000000000000) 6000000000000 (value_four Power 1 1) (omega arith))

  pub in_arm_at : (b c : Basis) {x : ℤ} (n j : ℕ) → b ≡ c → x ≡ four_at c four n j → x ≡ four_at b four n j
  in_arm_at b c n j e k = k ∙ ap (λ (d : Basis). four_at d four n j) (sym e)
