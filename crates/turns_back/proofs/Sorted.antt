-- Of B-spline, Bezier and Linear knots in order are enough: the curve never falls. Assumes nothing.
use Rattle.turns_back.specs.declared.Turning.TheVariants.{Never}
use Rattle.std.specs.Prelude.{Ok}
use mathlib.Core.Path.{◌≡◌, subst}
use mathlib.Core.Bool.{Bool, true, false}
use mathlib.Core.List.{List, []}
use Prim.Native.Nat.{ℕ, suc, ◌+◌, ◌*◌, ◌≤◌, ◌<◌}
use native.Mathlib.Nat.{add-suc}
use native.Mathlib.Omega.{arith}
use lib.IntN.{ℤ, pos, negsuc}
use lib.Dec.{T}
use lib.ListN.{length, drop, get_or}
use lib.Seq.{get_or-drop}
use lib.Signed.{non_neg, ◌≤ℤ◌}
use lib.Ieee.Fits.{and_i}
use Rattle.error.specs.Refusals.{first}
use Rattle.basis.specs.declared.Basis.{Basis}
use Rattle.basis.specs.declared.Basis.TheVariants.{Bspline, Bezier, CatmullRom, Hermite, Linear, Power}
use Rattle.basis.specs.Basis.{step_of, whole_of}
use Rattle.spline_exact.specs.Cubic.{at, whole_sum}
use Rattle.turns_back.specs.Curve.{never_falls, cubic_never_falls, coefficient, starts_no_lower, segment_never_falls}
use Rattle.whole.specs.Held.{turned_all}
use Rattle.whole.proofs.Held.{turned_long}
use Rattle.turns_back.specs.Call.{turning_uses, turns_back_by_of}
use Rattle.turns_back.proofs.Verdicts.{passed, starts}
use Rattle.turns_back.proofs.InOrder.{InOrder, turn_pair, none_turns}
use Rattle.whole.proofs.Differences.{up, down, Is, itself, plus, times, of_le}
use Rattle.turns_back.proofs.Seams.{added, taken, row_is, bspline_starts, bezier_starts, linear_starts}

not_negative : {z : ℤ} {p n : ℕ} → Is z p n → n ≤ p → T (non_neg z)
not_negative {z = pos a} u h = tt
not_negative {z = negsuc a} {p} {n} u h = absurd (let e = u.is in omega (arith, e))

all_up : (d0 d1 d2 : ℤ) → T (non_neg d0) → T (non_neg d1) → T (non_neg d2) → T (never_falls d0 d1 d2)
unfolding never_falls
all_up (pos a) (pos b) (pos c) p q r = tt
all_up (pos a) (pos b) (negsuc c) p q r = absurd r
all_up (pos a) (negsuc b) d2 p q r = absurd q
all_up (negsuc a) d1 d2 p q r = absurd p

up_all : {d0 d1 d2 : ℤ} {p0 n0 p1 n1 p2 n2 : ℕ} → Is d0 p0 n0 → Is d1 p1 n1 → Is d2 p2 n2 → n0 ≤ p0 → n1 ≤ p1 → n2 ≤ p2 → T (never_falls d0 d1 d2)
up_all {d0} {d1} {d2} u v w h k l = all_up d0 d1 d2 (not_negative u h) (not_negative v k) (not_negative w l)

-- the three whose curve goes with its knots
abbrev pub keeps_order : Basis → Bool
keeps_order Bspline = true
keeps_order Bezier = true
keeps_order CatmullRom = false
keeps_order Hermite = false
keeps_order Linear = true
keeps_order Power = false

-- the four knots' parts, and the rows over them
module _ (z : List ℤ) where
  abbrev p : ℕ → ℕ
  p i = up (at z i)

  abbrev n : ℕ → ℕ
  n i = down (at z i)

  abbrev adds : List ℤ → ℕ
  adds r = added (p 0) (n 0) (p 1) (n 1) (p 2) (n 2) (p 3) (n 3) r

  abbrev takes : List ℤ → ℕ
  takes r = taken (p 0) (n 0) (p 1) (n 1) (p 2) (n 2) (p 3) (n 3) r

  row : (r : List ℤ) → Is (whole_sum z r) (adds r) (takes r)
  row r = row_is (p 0) (n 0) (p 1) (n 1) (p 2) (n 2) (p 3) (n 3) z (itself (at z 0)) (itself (at z 1)) (itself (at z 2)) (itself (at z 3)) r

  by_slopes : (b : Basis)
      → let r0 = get_or (whole_of b) 0 [] in let r1 = get_or (whole_of b) 1 [] in let r2 = get_or (whole_of b) 2 [] in
      takes r2 ≤ adds r2 → takes r1 + takes r2 ≤ adds r1 + adds r2 → takes r0 * 3 + takes r1 * 2 + takes r2 ≤ adds r0 * 3 + adds r1 * 2 + adds r2
      → T (cubic_never_falls (whole_sum z r0) (whole_sum z r1) (whole_sum z r2))
  unfolding cubic_never_falls
  by_slopes b h0 h1 h2 =
      let s0 = row (get_or (whole_of b) 0 []) in
      let s1 = row (get_or (whole_of b) 1 []) in
      let s2 = row (get_or (whole_of b) 2 []) in
      up_all s2 (plus s1 s2) (plus (plus (times 3 s0) (times 2 s1)) s2) h0 h1 h2

  four_rise : at z 0 ≤ℤ at z 1 → at z 1 ≤ℤ at z 2 → at z 2 ≤ℤ at z 3 → (b : Basis) → T (keeps_order b)
      → T (cubic_never_falls (whole_sum z (get_or (whole_of b) 0 [])) (whole_sum z (get_or (whole_of b) 1 [])) (whole_sum z (get_or (whole_of b) 2 [])))
  four_rise h0 h1 h2 b t =
      go (of_le (itself (at z 0)) (itself (at z 1)) h0) (of_le (itself (at z 1)) (itself (at z 2)) h1) (of_le (itself (at z 2)) (itself (at z 3)) h2) b t
    where
      go : p 0 + n 1 ≤ p 1 + n 0 → p 1 + n 2 ≤ p 2 + n 1 → p 2 + n 3 ≤ p 3 + n 2 → (b : Basis) → T (keeps_order b)
          → T (cubic_never_falls (whole_sum z (get_or (whole_of b) 0 [])) (whole_sum z (get_or (whole_of b) 1 [])) (whole_sum z (get_or (whole_of b) 2 [])))
      go l0 l1 l2 Bspline t = by_slopes Bspline (omega arith) (omega arith) (omega arith)
      go l0 l1 l2 Bezier t = by_slopes Bezier (omega arith) (omega arith) (omega arith)
      go l0 l1 l2 CatmullRom t = absurd t
      go l0 l1 l2 Hermite t = absurd t
      go l0 l1 l2 Linear t = by_slopes Linear (omega arith) (omega arith) (omega arith)
      go l0 l1 l2 Power t = absurd t

starts_above : (b : Basis) → T (keeps_order b) → (z : List ℤ) (s : ℕ) → true ≡ starts_no_lower b z s
starts_above Bspline t z s = bspline_starts z s
starts_above Bezier t z s = bezier_starts z s
starts_above CatmullRom t z s = absurd t
starts_above Hermite t z s = absurd t
starts_above Linear t z s = linear_starts z s
starts_above Power t z s = absurd t

-- every segment over knots that rise rises
sorted_rises : (b : Basis) → T (keeps_order b) → (z : List ℤ) → ((i : ℕ) → suc i < length z → get_or z i (pos 0) ≤ℤ get_or z (suc i) (pos 0))
    → (s : ℕ) → s * step_of b + 4 ≤ length z → T (segment_never_falls b z s)
unfolding segment_never_falls coefficient
sorted_rises b t z o s h =
    let y = drop (s * step_of b) z in
    let next : (i : ℕ) → i < 3 → at y i ≤ℤ at y (suc i) = λ i l.
    rw (get_or-drop, get_or-drop) (rw (add-suc) (o (s * step_of b + i) (omega arith))) in
    and_i (starts_no_lower b z s) (cubic_never_falls (whole_sum y (get_or (whole_of b) 0 [])) (whole_sum y (get_or (whole_of b) 1 [])) (whole_sum y
    (get_or (whole_of b) 2 [])))
    (subst (λ (x : Bool). T x) (starts_above b t z s) tt) (four_rise y (next 0 (omega arith)) (next 1 (omega arith)) (next 2 (omega arith)) b t)

-- over knots in order they never turn back
pub sorted_never_turns : (b : Basis) → T (keeps_order b) → (t : Bool) (z : List ℤ) → InOrder t z → first (turning_uses b z) ≡ Ok tt
    → turns_back_by_of b t z ≡ Ok Never
sorted_never_turns b k t z o v =
    none_turns b t z v
    (λ s l. sorted_rises b k (turned_all t z) (λ i m. turn_pair t z i (suc i) (o.each i (omega (arith, m, turned_long t z)))) s
    (let h = starts b (length z) s (passed b z v).many l in omega (arith, h, turned_long t z)))
