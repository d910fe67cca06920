-- The strict conversion beside the plain one: they are one where the allowance is good and no seam is lost, 15 tells the lowest seam that is,
-- and where doubles are given each dropped one lies within the allowance of the one that stands. Assumes nothing.
use Rattle.std.specs.Prelude.{Ok, Err}
use mathlib.Core.Path.{◌≡◌, refl, sym, ap, subst, ◌∙◌}
use mathlib.Core.Bool.{Bool, true, false}
use mathlib.Core.List.{List}
use Prim.Native.Nat.{ℕ, ◌+◌, ◌-◌, ◌*◌, ◌≤◌, ◌<◌}
use native.Mathlib.Nat.{mul-le-mul_right}
use native.Mathlib.Omega.{arith}
use lib.Dec.{ltb, lit≤}
use lib.ListN.{length, get_or, drop, get_or-append}
use lib.Ieee.{Float, nan}
use borrow.Author.Tests.{ltb-true, ltb-false, lt-ltb, not-false}
use Rattle.error.specs.declared.Refusal.{Refusal}
use Rattle.error.specs.declared.Refusal.TheVariants.{BadAllowance, LostSeam}
use Rattle.error.specs.Refusals.{first, Verdict}
use Rattle.error.proofs.First.{never, clear}
use Rattle.basis.specs.declared.Basis.{Basis}
use Rattle.basis.specs.declared.Basis.TheVariants.{Bspline, Bezier, CatmullRom, Hermite, Linear, Power}
use Rattle.basis.specs.Basis.{step_of, segments_of}
use Rattle.convert_matrix.specs.Elimination.{conversion_of}
use Rattle.convert.specs.Output.{window_of, windows, spline_output}
use Rattle.convert.specs.Conversion.{gives, refuses, unless, convert_uses, converted_of}
use Rattle.convert.specs.Buffer.{buffer_of}
use Rattle.convert.proofs.Kept.{given, spline_length}
use Rattle.convert_strict.specs.Seams.{is_apart, is_lost, loses}
use Rattle.convert_strict.specs.Strict.{allowable, lost_seam_of, strict_uses, strict_of}
use Rattle.convert_strict.proofs.Scan.{stands}
use Rattle.convert_strict.proofs.Lowest.{any_found, any_holds, lowest_found, lowest_is, lowest_none}
use Rattle.convert_strict.proofs.Verdicts.{same_verdict, seam_decides, seam_decided}

four_at_most : (b : Basis) → step_of b ≤ 4
four_at_most Bspline = lit≤ tt
four_at_most Bezier = lit≤ tt
four_at_most CatmullRom = lit≤ tt
four_at_most Hermite = lit≤ tt
four_at_most Linear = lit≤ tt
four_at_most Power = lit≤ tt

-- ---- the seams of a curve
module _ (from to : Basis) (ks : List Float) where
  -- the segments up to s have written what stands in the whole output before the end of theirs
  pub output_stands : (s i : ℕ) → s < segments_of from (length ks) → i < 4 + s * step_of to → get_or (spline_output from to ks) i nan ≡ get_or
      (windows (conversion_of from to) (step_of from) (step_of to) ks s) i nan
  unfolding spline_output
  output_stands s i l h = stands (conversion_of from to) (step_of from) (step_of to) ks (four_at_most to) (segments_of from (length ks) - 1) s i (omega arith) h

module _ (from to : Basis) (ks : List Float) (allowance : Float) where
  -- double j of segment s's window is apart from the one at its place of the output
  abbrev pub Apart : ℕ → ℕ → Bool
  Apart s j = is_apart allowance (get_or (window_of (conversion_of from to) (step_of from) ks s) j nan) (get_or (spline_output from to ks) (s *
      step_of to + j) nan)

  -- s is a later segment, and one of the doubles that it drops is so
  abbrev pub Loses : ℕ → Type 0
  Loses s = (0 < s) × ((s < segments_of from (length ks)) × ((j : ℕ) × ((j < 4 - step_of to) × (Apart s j ≡ true))))

  -- and no segment before it loses one
  abbrev pub LosesFirst : ℕ → Type 0
  LosesFirst s = Loses s × ((i : ℕ) → i < s → Loses i → ⊥)

  abbrev test : ℕ → Bool
  test = loses (conversion_of from to) (step_of from) (step_of to) allowance ks (segments_of from (length ks) - 1)

  abbrev lost_at : ℕ → ℕ → Bool
  lost_at = is_lost (conversion_of from to) (step_of from) (step_of to) allowance ks (segments_of from (length ks) - 1)

  tests : (s : ℕ) → Loses s → test s ≡ true
  unfolding spline_output
  tests s x = any_holds (lost_at s) (4 - step_of to) x.1.1.0 x.1.1.1.0 x.1.1.1.1

  fails : (s : ℕ) → 0 < s → s < segments_of from (length ks) → (Loses s → ⊥) → test s ≡ false
  unfolding spline_output
  fails s a l h = go (test s) refl
    where
      go : (t : Bool) → test s ≡ t → test s ≡ false
      go true p = absurd (h (a, (l, any_found (lost_at s) (4 - step_of to) p)))
      go false p = p

  pub lost_found : (s : ℕ) → 0 < s → lost_seam_of from to ks allowance ≡ s → LosesFirst s
  unfolding lost_seam_of spline_output
  lost_found s a e =
      let r = lowest_found test (segments_of from (length ks) - 1) 1 s a e in
      ((a, (omega (arith, r.1.0), any_found (lost_at s) (4 - step_of to) r.1.1.0)), λ i l x. clash i (r.1.1.1 i (omega (arith, x.0)) l) x)
    where
      clash : (i : ℕ) → test i ≡ false → Loses i → ⊥
      clash i p x = let q = tests i x in never (cc)

  pub lost_is : (s : ℕ) → LosesFirst s → lost_seam_of from to ks allowance ≡ s
  unfolding lost_seam_of
  lost_is s x =
      let a : 0 < s = x.0.0 in
      let l : s < segments_of from (length ks) = x.0.1.0 in
      lowest_is test (segments_of from (length ks) - 1) 1 s (
        omega arith,
        (
          omega arith,
          (tests s x.0, λ k m n. fails k (omega arith) (omega arith) (x.1 k n)),
        ),
      )

  pub lost_none : lost_seam_of from to ks allowance ≡ 0 → (s : ℕ) → Loses s → ⊥
  unfolding lost_seam_of
  lost_none e s x =
      let a : 0 < s = x.0 in
      let l : s < segments_of from (length ks) = x.1.0 in
      let p = lowest_none test (segments_of from (length ks) - 1) 1 (omega arith) e s (omega arith) (omega arith) in
      let q = tests s x in
      never (cc)

-- Power's windows do not overlap: it never loses a double
pub power_keeps : (from : Basis) (ks : List Float) (allowance : Float) (to : Basis) → to ≡ Power → (s : ℕ) → Loses from to ks allowance s → ⊥
power_keeps from ks allowance to e s x = let h : x.1.1.0 < 4 - 4 = subst (λ (b : Basis). x.1.1.0 < 4 - step_of b) e x.1.1.1.0 in omega arith

-- ---- the conversion
module _ (from to : Basis) (ks : List Float) (allowance : Float) (room : ℕ) where
  abbrev verdict : Verdict
  verdict = first (strict_uses from to ks allowance room)

  pub strict_refuses : {r : Refusal} → verdict ≡ Err r → strict_of from to ks allowance room ≡ refuses r
  unfolding strict_of
  strict_refuses e = ap (λ (v : Verdict). unless v (spline_output from to ks)) e

  pub refused_by : {r : Refusal} → strict_of from to ks allowance room ≡ refuses r → verdict ≡ Err r
  unfolding strict_of
  refused_by {r} e = go verdict e
    where
      go : (v : Verdict) → unless v (spline_output from to ks) ≡ refuses r → v ≡ Err r
      go (Ok _) p = never (cc)
      go (Err q) p = let z : q ≡ r = cc in ap Err z

  same_conversion : verdict ≡ first (convert_uses from to ks room) → strict_of from to ks allowance room ≡ converted_of from to ks room
  unfolding strict_of converted_of
  same_conversion e = ap (λ (v : Verdict). unless v (spline_output from to ks)) e

  -- but for 17 and 15 it is the plain conversion
  pub strict_is_plain : (strict_of from to ks allowance room ≡ refuses BadAllowance → ⊥) →
      ((s : ℕ) → strict_of from to ks allowance room ≡ refuses (LostSeam s) → ⊥) → strict_of from to ks allowance room ≡ converted_of from to ks room
  strict_is_plain x y = same_conversion (same_verdict from to ks allowance room (λ p. x (strict_refuses p))
      (λ p. y (lost_seam_of from to ks allowance) (strict_refuses p)))

  pub strict_passes : verdict ≡ Ok tt → strict_of from to ks allowance room ≡ converted_of from to ks room
  strict_passes e = same_conversion (same_verdict from to ks allowance room (λ p. let z : ◌≡◌ {A = ℕ} 0 1 = cc in omega arith)
      (λ p. let z : ◌≡◌ {A = ℕ} 0 1 = cc in omega arith))

  -- 15 with segment s exactly where the plain conversion would answer, the allowance is good, and s is the lowest segment that loses a double
  abbrev pub SeamLost : ℕ → Type 0
  SeamLost s = (first (convert_uses from to ks room) ≡ Ok tt) × ((allowable allowance ≡ true) × LosesFirst from to ks allowance s)

  pub lost_only : (s : ℕ) → strict_of from to ks allowance room ≡ refuses (LostSeam s) → SeamLost s
  lost_only s e =
      let d = seam_decides from to ks allowance room s (refused_by e) in
      let a : 0 < lost_seam_of from to ks allowance = ltb-true 0 (lost_seam_of from to ks allowance) d.lost in
      (d.plain_passes, (not-false (allowable allowance) d.good, lost_found from to ks allowance s (omega (arith, d.it_is)) d.it_is))

  pub lost_where : (s : ℕ) → SeamLost s → strict_of from to ks allowance room ≡ refuses (LostSeam s)
  lost_where s x =
      let e = lost_is from to ks allowance s x.1.1 in
      let a : 0 < s = x.1.1.0.0 in
      strict_refuses (seam_decided from to ks allowance room s (record {
        plain_passes = x.0;
        good = simp x.1.0;
        lost = ap (ltb 0) e ∙ lt-ltb 0 s
            a;
        it_is = e;
      }))

  -- where doubles are given, none that is dropped is apart from the one that stands in the buffer
  pub kept_within : (l out : List Float) → strict_of from to ks allowance room ≡ gives l → (s j : ℕ) → 0 < s → s < segments_of from (length ks) → j < 4
      - step_of to
      → is_apart allowance (get_or (window_of (conversion_of from to) (step_of from) ks s) j nan) (get_or (buffer_of (gives l) out) (s * step_of to +
      j) nan) ≡ false
  unfolding strict_of
  kept_within l out e s j a b h =
      let g = given verdict e in
      let c = clear (strict_uses from to ks allowance room) g.0 in
      let none : lost_seam_of from to ks allowance ≡ 0 = omega (arith, ltb-false 0 (lost_seam_of from to ks allowance) (c 15)) in
      let n = (spline_length from to ks room l (sym (strict_passes g.0) ∙ e)).0 in
      let most : s * step_of to ≤ (segments_of from (length ks) - 1) * step_of to = mul-le-mul_right (step_of to) (omega arith) in
      let here : get_or (buffer_of (gives l) out) (s * step_of to + j) nan ≡ get_or (spline_output from to ks) (s * step_of to + j) nan =
      get_or-append l (drop (length l) out) nan (s * step_of to + j) (omega (arith, n)) ∙ ap (λ (x : List Float). get_or x (s * step_of to + j) nan)
      (sym g.1) in
      ap (is_apart allowance (get_or (window_of (conversion_of from to) (step_of from) ks s) j nan)) here ∙ go (Apart from to ks allowance s j) refl none
    where
      go : (t : Bool) → Apart from to ks allowance s j ≡ t → lost_seam_of from to ks allowance ≡ 0 → Apart from to ks allowance s j ≡ false
      go true p z = absurd (lost_none from to ks allowance z s (a, (b, (j, (h, p)))))
      go false p z = p
