-- What the call promises: which table refuses and by which row, the bound of both tables' evaluations, and that past the refusals it is the
-- inversion and then the evaluation, which never refuses: the parameter that is told lies in 0 to 1, so it is a number. Assumes nothing.
use Rattle.uneven.specs.declared.DepthMiss.{DepthMiss}
use Rattle.uneven.specs.declared.Depth.{Depth}
use Rattle.uneven.specs.declared.DepthMiss.TheVariants.{Refused, OffCurve}
use Rattle.inverse_segment.specs.Inversion.{Inversion}
use Rattle.inverse_segment.specs.declared.Miss.TheVariants.{Refused, OffCurve}
use Rattle.std.specs.Prelude.{Ok, Err, Result}
use mathlib.Core.Path.{◌≡◌, refl, sym, ap, ◌∙◌, subst}
use mathlib.Core.Bool.{true, false, not}
use mathlib.Core.List.{List}
use Prim.Native.Nat.{ℕ, ◌+◌, ◌*◌, ◌≤◌, ◌<◌}
use native.Mathlib.Omega.{arith}
use lib.Dec.{ltb}
use lib.ListN.{length}
use lib.Ieee.{Float, nan, inf, fin, le, lt, eq, is_nan}
use Rattle.error.specs.declared.Refusal.{Refusal}
use Rattle.error.specs.Refusals.{rows, first, Verdict}
use Rattle.error.proofs.First.{never, clear, First, first_sound, first_complete}
use Rattle.basis.specs.declared.Basis.{Basis}
use Rattle.basis.specs.Basis.{regular, segments_of}
use Rattle.doubles.proofs.Bounds.{InOne}
use Rattle.checks.specs.Checks.{all_in_range}
use Rattle.spline.specs.Curve.{curve_value}
use Rattle.spline.specs.Evaluation.{evaluated, spline_uses, spline_of, Evaluation}
use Rattle.inverse_segment.specs.declared.Place.{Place}
use Rattle.inverse_segment.specs.Answer.{count_told}
use Rattle.inverse_segment.specs.declared.Method.TheVariants.{AsCrate}
use Rattle.inverse_search.specs.Bound.{bits_of, bound_of}
use Rattle.inverse_order.specs.declared.EndsBy.TheVariants.{Knots}
use Rattle.inverse.specs.Inverse.{inverse_uses, inverse_of, inverse_evaluations}
use Rattle.inverse.proofs.Facts.{AtPlace, Proper}
use Rattle.inverse.proofs.Promises.{inverse_count, inverse_bounded, few_bound, many_bound, inverse_proper}
use Rattle.inverse.proofs.Refusing.{inverse_refused_only, inverse_refused_where}
use Rattle.uneven.specs.declared.WhichTable.TheVariants.{Times, Depths}
use Rattle.uneven.specs.Uneven.{depth_uses, depth_at, suited, sounded, depth_of}
use Rattle.uneven.specs.Contract.{asked_at}

-- the evaluations told: of both tables for a depth, of the times for 11; 0 for the other refusals
abbrev pub count_of : Result Depth DepthMiss → ℕ
count_of (Err (Refused t r)) = 0
count_of (Err (OffCurve n)) = n
count_of (Ok d) = d.count

number_of : (x : Float) → InOne x → is_nan x ≡ false
unfolding le lt eq is_nan
number_of nan h = absurd h.low
number_of (inf s) h = refl
number_of (fin s m e) h = refl

-- the depths are evaluated at a number, wherever the inversion came to
pub asked_number : (b : Basis) (ts : List Float) (y : Float) (limit : ℕ) (ε : Float) (a : Inversion) → a ≡ inverse_of b y ts true limit ε
    → is_nan (asked_at a) ≡ false
unfolding is_nan
asked_number b ts y limit ε (Err (Refused r)) e = refl
asked_number b ts y limit ε (Err (OffCurve n)) e = refl
asked_number b ts y limit ε (Ok p) e =
    let proper : Proper p = subst (AtPlace Proper) (sym e) (inverse_proper Knots AsCrate b y ts true limit ε) in
    number_of p.parameter proper.parameter

-- ---- an answer, by the depths' verdict, the inversion and the evaluation
by_times : (v : Verdict) (a : Inversion) (f : Float → Evaluation) (r : Refusal) → sounded v a f ≡ Err (Refused Times r) → a ≡ Err (Refused r)
by_times (Ok _) (Err (Refused q)) f r e = let s : q ≡ r = cc in ap (λ a. Err (Refused a)) s
by_times (Ok _) (Err (OffCurve n)) f r e = never (cc)
by_times (Ok _) (Ok p) f r e = go (f p.parameter) e
  where
    go : (x : Evaluation) → depth_at p x ≡ Err (Refused Times r) → ◌≡◌ {A = Inversion} (Ok p) (Err (Refused r))
    go (Ok d) h = never (cc)
    go (Err q) h = never (cc)
by_times (Err w) (Err (Refused q)) f r e = let s : q ≡ r = cc in ap (λ a. Err (Refused a)) s
by_times (Err w) (Err (OffCurve n)) f r e = never (cc)
by_times (Err w) (Ok p) f r e = never (cc)

times_stop : (v : Verdict) (f : Float → Evaluation) (r : Refusal) → sounded v (Err (Refused r)) f ≡ Err (Refused Times r)
times_stop (Ok _) f r = refl
times_stop (Err w) f r = refl

-- the evaluation answers where the depths pass
abbrev Answers : Verdict → Inversion → (Float → Evaluation) → Type 0
Answers v a f = v ≡ Ok tt → (p : Place) → a ≡ Ok p → (d : Float) × (f p.parameter ≡ Ok d)

by_depths : (v : Verdict) (a : Inversion) (f : Float → Evaluation) (r : Refusal) → Answers v a f → sounded v a f ≡ Err (Refused Depths r) → (v ≡ Err r) ×
    ((q : Refusal) → a ≡ Err (Refused q) → ⊥)
by_depths (Ok _) (Err (Refused q)) f r h e = never (cc)
by_depths (Ok _) (Err (OffCurve n)) f r h e = never (cc)
by_depths (Ok _) (Ok p) f r h e = let g = h refl p refl in let x = ap (depth_at p) g.1 in never (cc)
by_depths (Err w) (Err (Refused q)) f r h e = never (cc)
by_depths (Err w) (Err (OffCurve n)) f r h e = let s : w ≡ r = cc in (ap Err s, λ q x. let z : ◌≡◌ {A = ℕ} 0 1 = cc in omega arith)
by_depths (Err w) (Ok p) f r h e = let s : w ≡ r = cc in (ap Err s, λ q x. let z : ◌≡◌ {A = ℕ} 0 1 = cc in omega arith)

depths_stop : (a : Inversion) (f : Float → Evaluation) (r : Refusal) → ((q : Refusal) → a ≡ Err (Refused q) → ⊥) → sounded (Err r) a f ≡ Err (Refused Depths r)
depths_stop (Err (Refused q)) f r h = absurd (h q refl)
depths_stop (Err (OffCurve n)) f r h = refl
depths_stop (Ok p) f r h = refl

by_off : (v : Verdict) (a : Inversion) (f : Float → Evaluation) (n : ℕ) → sounded v a f ≡ Err (OffCurve n) → (v ≡ Ok tt) × (a ≡ Err (OffCurve n))
by_off (Ok _) (Err (Refused q)) f n e = never (cc)
by_off (Ok _) (Err (OffCurve m)) f n e = let s : m ≡ n = cc in (refl, ap (λ a. Err (OffCurve a)) s)
by_off (Ok _) (Ok p) f n e = go (f p.parameter) e
  where
    go : (x : Evaluation) → depth_at p x ≡ Err (OffCurve n) → (◌≡◌ {A = Verdict} (Ok tt) (Ok tt)) × (◌≡◌ {A = Inversion} (Ok p) (Err (OffCurve n)))
    go (Ok d) h = never (cc)
    go (Err q) h = never (cc)
by_off (Err w) (Err (Refused q)) f n e = never (cc)
by_off (Err w) (Err (OffCurve m)) f n e = never (cc)
by_off (Err w) (Ok p) f n e = never (cc)

-- one evaluation more at most
one_more : (v : Verdict) (a : Inversion) (f : Float → Evaluation) → count_of (sounded v a f) ≤ count_told a + 1
one_more (Ok _) (Err (Refused q)) f = omega arith
one_more (Ok _) (Err (OffCurve n)) f = omega arith
one_more (Ok _) (Ok p) f = go (f p.parameter)
  where
    go : (x : Evaluation) → count_of (depth_at p x) ≤ p.count + 1
    go (Ok d) = omega arith
    go (Err q) = omega arith
one_more (Err w) (Err (Refused q)) f = omega arith
one_more (Err w) (Err (OffCurve n)) f = omega arith
one_more (Err w) (Ok p) f = omega arith

module _ (tb : Basis) (ts : List Float) (db : Basis) (ds : List Float) (y : Float) (limit : ℕ) (ε : Float) where
  abbrev place : Inversion
  place = inverse_of tb y ts true limit ε

  abbrev times_pass : Type 0
  times_pass = first (inverse_uses tb y ts true limit ε) ≡ Ok tt

  abbrev verdict : Verdict
  verdict = first (depth_uses tb (length ts) db ds)

  abbrev k : ℕ
  k = segments_of tb (length ts)

  -- ---- the depths' evaluation never refuses
  passes : verdict ≡ Ok tt → (x : Float) → is_nan x ≡ false → first (spline_uses db x ds) ≡ Ok tt
  passes e x n =
      let c = clear (depth_uses tb (length ts) db ds) e in
      let few : ltb (length ds) 4 ≡ false = c 1 in
      let regular : not (regular db (length ds)) ≡ false = c 2 in
      let many : ltb 4096 (length ds) ≡ false = c 3 in
      let range : not (all_in_range ds) ≡ false = c 4 in
      simp (few, regular, many, n, range)

  pub depth_told : verdict ≡ Ok tt → (p : Place) → place ≡ Ok p → spline_of db p.parameter ds ≡ Ok (curve_value db p.parameter ds)
  unfolding spline_of
  depth_told e p f =
      let proper : Proper p = subst (AtPlace Proper) f (inverse_proper Knots AsCrate tb y ts true limit ε) in
      ap (λ (v : Verdict). evaluated v (curve_value db p.parameter ds)) (passes e p.parameter (number_of p.parameter proper.parameter))

  -- ---- a table that refuses
  no_row : times_pass → (q : Refusal) → place ≡ Err (Refused q) → ⊥
  no_row e q f = let g = first_complete rows (inverse_uses tb y ts true limit ε) q (inverse_refused_only Knots AsCrate tb y ts true limit ε q f) in
      let z : ◌≡◌ {A = ℕ} 0 1 = cc in omega arith

  times_pass_lem : ((q : Refusal) → place ≡ Err (Refused q) → ⊥) → times_pass
  times_pass_lem h = go (first (inverse_uses tb y ts true limit ε)) refl
    where
      go : (v : Verdict) → first (inverse_uses tb y ts true limit ε) ≡ v → times_pass
      go (Ok _) e = e
      go (Err q) e = absurd (h q (inverse_refused_where Knots AsCrate tb y ts true limit ε q (first_sound rows (inverse_uses tb y ts true limit ε) q e)))

  -- the times, by the first of their rows that applies
  pub times_only : (r : Refusal) → depth_of tb ts db ds y limit ε ≡ Err (Refused Times r) → First (inverse_uses tb y ts true limit ε) rows r
  unfolding depth_of
  times_only r e = inverse_refused_only Knots AsCrate tb y ts true limit ε r (by_times verdict place (λ x. spline_of db x ds) r e)

  pub times_where : (r : Refusal) → First (inverse_uses tb y ts true limit ε) rows r → depth_of tb ts db ds y limit ε ≡ Err (Refused Times r)
  unfolding depth_of
  times_where r f = ap (λ (a : Inversion). sounded verdict a (λ x. spline_of db x ds)) (inverse_refused_where Knots AsCrate tb y ts true limit ε r f) ∙
      times_stop verdict (λ x. spline_of db x ds) r

  -- the depths, where no row of the times applies, by the first of theirs
  pub depths_only : (r : Refusal) → depth_of tb ts db ds y limit ε ≡ Err (Refused Depths r) → times_pass × First (depth_uses tb (length ts) db ds) rows r
  unfolding depth_of
  depths_only r e =
      let x = by_depths verdict place (λ x. spline_of db x ds) r (λ h p f. (curve_value db p.parameter ds, depth_told h p f)) e in
      (times_pass_lem x.1, first_sound rows (depth_uses tb (length ts) db ds) r x.0)

  pub depths_where : (r : Refusal) → times_pass × First (depth_uses tb (length ts) db ds) rows r → depth_of tb ts db ds y limit ε ≡ Err (Refused Depths r)
  unfolding depth_of
  depths_where r h =
      ap (λ (v : Verdict). sounded v place (λ x. spline_of db x ds)) (first_complete rows (depth_uses tb (length ts) db ds) r h.1)
      ∙ depths_stop place (λ x. spline_of db x ds) r (no_row h.0)

  -- ---- where both tables pass: the two calls in turn
  pub off_only : (n : ℕ) → depth_of tb ts db ds y limit ε ≡ Err (OffCurve n) → (verdict ≡ Ok tt) × (place ≡ Err (OffCurve n))
  unfolding depth_of
  off_only n e = by_off verdict place (λ x. spline_of db x ds) n e

  pub off_where : (n : ℕ) → (verdict ≡ Ok tt) × (place ≡ Err (OffCurve n)) → depth_of tb ts db ds y limit ε ≡ Err (OffCurve n)
  unfolding depth_of
  off_where n h = ap (λ (v : Verdict). sounded v place (λ x. spline_of db x ds)) h.0 ∙ ap (λ (a : Inversion). suited a (λ x. spline_of db x ds)) h.1

  pub in_turn : verdict ≡ Ok tt → (p : Place) → place ≡ Ok p
      → depth_of tb ts db ds y limit ε ≡ Ok (record { depth = curve_value db p.parameter ds; place = p; count = p.count + 1 })
  unfolding depth_of
  in_turn e p f =
      ap (λ (v : Verdict). sounded v place (λ x. spline_of db x ds)) e
      ∙ ap (λ (a : Inversion). suited a (λ x. spline_of db x ds)) f
      ∙ ap (depth_at p) (depth_told e p f)

  -- ---- demand 3's bound, and 1
  pub depth_bounded : count_of (depth_of tb ts db ds y limit ε) ≤ bound_of k limit + 1
  unfolding depth_of
  depth_bounded = omega (arith, one_more verdict place (λ x. spline_of db x ds), inverse_bounded Knots AsCrate tb y ts true limit ε)

  pub few_bounded : k ≤ 12 → count_of (depth_of tb ts db ds y limit ε) ≤ limit + 25
  few_bounded h = omega (arith, depth_bounded, few_bound Knots AsCrate tb y ts true limit ε h)

  pub many_bounded : 12 < k → count_of (depth_of tb ts db ds y limit ε) ≤ limit + 2 * bits_of k + 5
  many_bounded h = omega (arith, depth_bounded, many_bound Knots AsCrate tb y ts true limit ε h)

  -- the count is that of the definition's list of evaluations of the times, and 1
  pub off_count : (n : ℕ) → place ≡ Err (OffCurve n) → n ≡ length (inverse_evaluations tb y ts true limit ε)
  off_count n e = ap count_told (sym e) ∙ inverse_count Knots AsCrate tb y ts true limit ε

  pub found_count : (p : Place) → place ≡ Ok p → p.count ≡ length (inverse_evaluations tb y ts true limit ε)
  found_count p e = ap count_told (sym e) ∙ inverse_count Knots AsCrate tb y ts true limit ε
