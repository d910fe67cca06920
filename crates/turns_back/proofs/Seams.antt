-- Where a segment starts and the one before it ends: one number, but for Power. Assumes nothing.
use mathlib.Core.Path.{◌≡◌, refl, sym, ap, ◌∙◌, subst}
use mathlib.Core.Bool.{Bool, true, false}
use mathlib.Core.List.{List, []}
use Prim.Native.Nat.{ℕ, zero, suc, ◌+◌, ◌-◌, ◌*◌, ◌≤◌}
use native.Mathlib.Omega.{arith}
use lib.IntN.{ℤ, pos, sub_ℕ, ◌*ℤ◌}
use lib.Dec.{T, leb}
use lib.ListN.{drop, get_or}
use lib.Seq.{get_or-drop}
use lib.Signed.{le_z, le_z_yes}
use borrow.Author.Tests.{leb-true, leb-false}
use Rattle.basis.specs.declared.Basis.{Basis}
use Rattle.basis.specs.declared.Basis.TheVariants.{Bspline, Bezier, CatmullRom, Hermite, Linear, Power}
use Rattle.basis.specs.Basis.{step_of, whole_of}
use Rattle.spline_exact.specs.Cubic.{at, whole_sum}
use Rattle.turns_back.specs.Curve.{value_at, coefficient, curve_at, starts_no_lower}
use Rattle.whole.specs.Held.{held, held_all, turned, turned_all}
use Rattle.turns_back.specs.Call.{most}
use Rattle.whole.proofs.Differences.{up, down, Is, itself, sub_is, other, plus, times, by, le, of_le}
use Rattle.whole.proofs.Held.{turned_knot}

pub true_of : (b : Bool) → T b → b ≡ true
true_of true t = refl
true_of false t = absurd t

pub not_so : (b : Bool) → (T b → ⊥) → b ≡ false
not_so true f = absurd (f tt)
not_so false f = refl

-- a test of two differences, as the code makes it of other numbers that lie as far apart
tested : {x y : ℤ} {p n q m : ℕ} (a c : ℕ) → Is x p n → Is y q m → c + (p + m) ≡ a + (q + n) → leb a c ≡ le_z x y
tested {x} {y} {p} {n} {q} {m} a c u v e = go (leb a c) refl
  where
    go : (t : Bool) → leb a c ≡ t → t ≡ le_z x y
    go true h = let l = leb-true a c h in sym (true_of (le_z x y) (le u v (omega (arith, l, e))).le)
    go false h = let l = leb-false a c h in sym (not_so (le_z x y) (λ t. let k = of_le u v (le_z_yes t) in absurd (omega (arith, l, e, k))))

-- ---- a row over four knots, each a difference
swapped : {x : ℤ} {p n : ℕ} (y : ℤ) → Is x p n → Is (x *ℤ y) (p * up y + n * down y) (n * up y + p * down y)
swapped y u = other _ _ (by y u) (omega arith)

abbrev of_rows : (List ℤ → ℕ) → List (List ℤ) → ℕ → ℕ → ℕ
of_rows f m n j = f (get_or m 0 []) * (j * j * j) + f (get_or m 1 []) * (n * j * j) + f (get_or m 2 []) * (n * n * j) + f (get_or m 3 []) * (n * n * n)

module _ (p0 n0 p1 n1 p2 n2 p3 n3 : ℕ) where
  abbrev pub added : List ℤ → ℕ
  added r = p0 * up (at r 0) + n0 * down (at r 0) + (p1 * up (at r 1) + n1 * down (at r 1)) + (p2 * up (at r 2) + n2 * down (at r 2)) +
      (p3 * up (at r 3) + n3 * down (at r 3))

  abbrev pub taken : List ℤ → ℕ
  taken r = n0 * up (at r 0) + p0 * down (at r 0) + (n1 * up (at r 1) + p1 * down (at r 1)) + (n2 * up (at r 2) + p2 * down (at r 2)) +
      (n3 * up (at r 3) + p3 * down (at r 3))

  module _ (z : List ℤ) (u0 : Is (at z 0) p0 n0) (u1 : Is (at z 1) p1 n1) (u2 : Is (at z 2) p2 n2) (u3 : Is (at z 3) p3 n3) where
    pub row_is : (r : List ℤ) → Is (whole_sum z r) (added r) (taken r)
    unfolding whole_sum
    row_is r = plus (plus (plus (swapped (at r 0) u0) (swapped (at r 1) u1)) (swapped (at r 2) u2)) (swapped (at r 3) u3)

    pub value_is : (m : List (List ℤ)) (n j : ℕ)
        → Is (value_at (whole_sum z (get_or m 0 [])) (whole_sum z (get_or m 1 [])) (whole_sum z (get_or m 2 [])) (whole_sum z (get_or m 3 [])) n j)
        (of_rows added m n j)
        (of_rows taken m n j)
    unfolding value_at
    value_is m n j =
        plus (plus (plus (times (j * j * j) (row_is (get_or m 0 []))) (times (n * j * j) (row_is (get_or m 1 [])))) (times (n * n * j) (row_is
        (get_or m 2 []))))
        (times (n * n * n) (row_is (get_or m 3 [])))

-- ---- the knots of a segment and of the next
module _ (b : Basis) (z : List ℤ) (s : ℕ) where
  abbrev x : ℕ → ℤ
  x i = get_or z (s * step_of b + i) (pos 0)

  here : (i : ℕ) → at (drop (s * step_of b) z) i ≡ x i
  here i = get_or-drop (s * step_of b) z i (pos 0)

  next : (i : ℕ) → at (drop (suc s * step_of b) z) i ≡ x (step_of b + i)
  next i =
      let e : suc s * step_of b + i ≡ s * step_of b + (step_of b + i) = omega arith in
      get_or-drop (suc s * step_of b) z i (pos 0) ∙ ap (λ (n : ℕ). get_or z n (pos 0)) e

  here_is : (i : ℕ) → Is (at (drop (s * step_of b) z) i) (up (x i)) (down (x i))
  here_is i = subst (λ (v : ℤ). Is v (up (x i)) (down (x i))) (sym (here i)) (itself (x i))

  next_is : (i : ℕ) → Is (at (drop (suc s * step_of b) z) i) (up (x (step_of b + i))) (down (x (step_of b + i)))
  next_is i = subst (λ (v : ℤ). Is v (up (x (step_of b + i))) (down (x (step_of b + i)))) (sym (next i)) (itself (x (step_of b + i)))

  pub seam_of : (p n p' n' : ℕ) → Is (curve_at b z s 1 1) p n → Is (curve_at b z (suc s) 1 0) p' n' → p + n' ≤ p' + n → true ≡ starts_no_lower b z (suc s)
  unfolding starts_no_lower
  seam_of p n p' n' u v h = sym (true_of (le_z (curve_at b z s 1 1) (curve_at b z (suc s) 1 0)) (le u v h).le)

pub bspline_starts : (z : List ℤ) (s : ℕ) → true ≡ starts_no_lower Bspline z s
unfolding starts_no_lower curve_at coefficient
bspline_starts z zero = refl
bspline_starts z (suc s) =
    seam_of Bspline z s _ _ _ _
    (value_is _ _ _ _ _ _ _ _ (drop (s * 1) z) (here_is Bspline z s 0) (here_is Bspline z s 1) (here_is Bspline z s 2) (here_is Bspline z s 3)
    (whole_of Bspline) 1 1)
    (value_is _ _ _ _ _ _ _ _ (drop (suc s * 1) z) (next_is Bspline z s 0) (next_is Bspline z s 1) (next_is Bspline z s 2) (next_is Bspline z s 3)
    (whole_of Bspline) 1 0)
    (omega arith)

pub bezier_starts : (z : List ℤ) (s : ℕ) → true ≡ starts_no_lower Bezier z s
unfolding starts_no_lower curve_at coefficient
bezier_starts z zero = refl
bezier_starts z (suc s) =
    seam_of Bezier z s _ _ _ _
    (value_is _ _ _ _ _ _ _ _ (drop (s * 3) z) (here_is Bezier z s 0) (here_is Bezier z s 1) (here_is Bezier z s 2) (here_is Bezier z s 3) (whole_of
    Bezier) 1 1)
    (value_is _ _ _ _ _ _ _ _ (drop (suc s * 3) z) (next_is Bezier z s 0) (next_is Bezier z s 1) (next_is Bezier z s 2) (next_is Bezier z s 3)
    (whole_of Bezier) 1 0)
    (omega arith)

pub catmull_rom_starts : (z : List ℤ) (s : ℕ) → true ≡ starts_no_lower CatmullRom z s
unfolding starts_no_lower curve_at coefficient
catmull_rom_starts z zero = refl
catmull_rom_starts z (suc s) =
    seam_of CatmullRom z s _ _ _ _
    (value_is _ _ _ _ _ _ _ _ (drop (s * 1) z) (here_is CatmullRom z s 0) (here_is CatmullRom z s 1) (here_is CatmullRom z s 2) (here_is CatmullRom z s 3)
    (whole_of CatmullRom) 1 1)
    (value_is _ _ _ _ _ _ _ _ (drop (suc s * 1) z) (next_is CatmullRom z s 0) (next_is CatmullRom z s 1) (next_is CatmullRom z s 2) (next_is CatmullRom z s 3)
    (whole_of CatmullRom) 1 0)
    (omega arith)

pub hermite_starts : (z : List ℤ) (s : ℕ) → true ≡ starts_no_lower Hermite z s
unfolding starts_no_lower curve_at coefficient
hermite_starts z zero = refl
hermite_starts z (suc s) =
    seam_of Hermite z s _ _ _ _
    (value_is _ _ _ _ _ _ _ _ (drop (s * 2) z) (here_is Hermite z s 0) (here_is Hermite z s 1) (here_is Hermite z s 2) (here_is Hermite z s 3)
    (whole_of Hermite) 1 1)
    (value_is _ _ _ _ _ _ _ _ (drop (suc s * 2) z) (next_is Hermite z s 0) (next_is Hermite z s 1) (next_is Hermite z s 2) (next_is Hermite z s 3)
    (whole_of Hermite) 1 0)
    (omega arith)

pub linear_starts : (z : List ℤ) (s : ℕ) → true ≡ starts_no_lower Linear z s
unfolding starts_no_lower curve_at coefficient
linear_starts z zero = refl
linear_starts z (suc s) =
    seam_of Linear z s _ _ _ _
    (value_is _ _ _ _ _ _ _ _ (drop (s * 1) z) (here_is Linear z s 0) (here_is Linear z s 1) (here_is Linear z s 2) (here_is Linear z s 3) (whole_of
    Linear) 1 1)
    (value_is _ _ _ _ _ _ _ _ (drop (suc s * 1) z) (next_is Linear z s 0) (next_is Linear z s 1) (next_is Linear z s 2) (next_is Linear z s 3)
    (whole_of Linear) 1 0)
    (omega arith)

-- ---- Power may start elsewhere: its first three numbers and its fourth make the end
module _ (z : List ℤ) (s a c d e f : ℕ) where
  pub power_starts : sub_ℕ a most ≡ get_or z (s * 4) (pos 0) → sub_ℕ c most ≡ get_or z (s * 4 + 1) (pos 0) → sub_ℕ d most ≡ get_or z (s * 4 + 2) (pos 0)
      → sub_ℕ e most ≡ get_or z (s * 4 + 3) (pos 0) → sub_ℕ f most ≡ get_or z (s * 4 + 7) (pos 0)
      → leb (a + c + d + e) (f + 3000000000000) ≡ starts_no_lower Power z (suc s)
  unfolding starts_no_lower curve_at coefficient
  power_starts ia ic id ie if' =
      tested (a + c + d + e) (f + 3000000000000)
      (value_is a most c most d most e most (drop (s * 4) z) (is_at 0 a (ia ∙ moved 0 (omega arith))) (is_at 1 c ic) (is_at 2 d id) (is_at 3 e ie)
      (whole_of Power) 1 1)
      (value_is _ _ _ _ _ _ f most (drop (suc s * 4) z) (next_is Power z s 0) (next_is Power z s 1) (next_is Power z s 2) next_3 (whole_of Power) 1 0)
      (omega arith)
    where
      moved : (i : ℕ) {n : ℕ} → n ≡ s * 4 + i → get_or z n (pos 0) ≡ get_or z (s * 4 + i) (pos 0)
      moved i p = ap (λ (n : ℕ). get_or z n (pos 0)) p

      is_at : (i k : ℕ) → sub_ℕ k most ≡ get_or z (s * 4 + i) (pos 0) → Is (at (drop (s * 4) z) i) k most
      is_at i k p = subst (λ (v : ℤ). Is v k most) (p ∙ sym (here Power z s i)) (sub_is k most)

      next_3 : Is (at (drop (suc s * 4) z) 3) f most
      next_3 = subst (λ (v : ℤ). Is v f most) (if' ∙ sym (next Power z s 3)) (sub_is f most)

pub power_first : (z : List ℤ) (s : ℕ) → s ≡ 0 → true ≡ starts_no_lower Power z s
unfolding starts_no_lower
power_first z s e = sym (ap (λ (n : ℕ). starts_no_lower Power z n) e)

-- by the knots as the code reads them
pub power_later : (t : Bool) (ks : List ℤ) (s a c d e f : ℕ) → (s ≡ 0 → ⊥) → sub_ℕ a most ≡ turned t (held (get_or ks (4 * s - 4) (pos 0)))
    → sub_ℕ c most ≡ turned t (held (get_or ks (4 * s - 3) (pos 0))) → sub_ℕ d most ≡ turned t (held (get_or ks (4 * s - 2) (pos 0)))
    → sub_ℕ e most ≡ turned t (held (get_or ks (4 * s - 1) (pos 0))) → sub_ℕ f most ≡ turned t (held (get_or ks (4 * s + 3) (pos 0)))
    → leb (a + c + d + e) (f + 3000000000000) ≡ starts_no_lower Power (turned_all t (held_all ks)) s
power_later t ks zero a c d e f h ia ic id ie if' = absurd (h refl)
power_later t ks (suc s) a c d e f h ia ic id ie if' =
    power_starts (turned_all t (held_all ks)) s a c d e f (ia ∙ read (omega arith)) (ic ∙ read (omega arith)) (id ∙ read (omega arith)) (ie
    ∙ read (omega arith))
    (if' ∙ read (omega arith))
  where
    read : {m n : ℕ} → m ≡ n → turned t (held (get_or ks m (pos 0))) ≡ get_or (turned_all t (held_all ks)) n (pos 0)
    read {m} {n} p = ap (λ (k : ℕ). turned t (held (get_or ks k (pos 0)))) p ∙ sym (turned_knot t ks n)

-- of every basis but Power
pub others_start : (b : Basis) (z : List ℤ) (s : ℕ) → (b ≡ Power → ⊥) → true ≡ starts_no_lower b z s
others_start Bspline z s n = bspline_starts z s
others_start Bezier z s n = bezier_starts z s
others_start CatmullRom z s n = catmull_rom_starts z s
others_start Hermite z s n = hermite_starts z s
others_start Linear z s n = linear_starts z s
others_start Power z s n = absurd (n refl)
