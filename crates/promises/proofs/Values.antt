-- What evaluation and conversion leave, of the calls themselves: a value told is finite; a conversion writes as many doubles as the definition says, each
-- finite, leaves every place beyond them as it was, and
-- every product and sum of its windows is finite. Each is known of the definition, and a contract is an equation with it. Assumes nothing.
use Rattle.error.specs.declared.Refusal.{Refusal}
use Rattle.std.specs.Prelude.{Ok, Err, Result, ℕ}
use mathlib.Core.Path.{◌≡◌, refl, sym, ap, ◌∙◌, subst}
use mathlib.Core.List.{List}
use Prim.Native.Nat.{ℕ, ◌+◌, ◌-◌, ◌*◌, ◌≤◌, ◌<◌}
use native.Mathlib.Omega.{arith}
use lib.Dec.{T, lit≤}
use lib.ListN.{length, get_or, drop, get_or-append}
use lib.Ieee.{Float, nan}
use lib.Ieee.Scale.{finite}
use Rattle.error.specs.Refusals.{first, Verdict}
use Rattle.error.proofs.First.{never}
use Rattle.basis.specs.declared.Basis.{Basis}
use Rattle.basis.specs.Basis.{step_of, segments_of}
use Rattle.doubles.proofs.Tests.{holds}
use Rattle.checks.specs.Checks.{all_in_range}
use Rattle.spline.proofs.Finite.{Four, Small, Finite, joined, row_finite, knots_within}
use Rattle.spline.proofs.Parts.{inside}
use Rattle.spline.proofs.Values.{spline_finite, spline_segment_finite}
use Rattle.spline.proofs.spline.Reads as spline
use Rattle.spline.proofs.spline_segment.Reads as spline_segment
use Rattle.convert_matrix.specs.Matrix.{Matrix, row}
use Rattle.convert_matrix.specs.Elimination.{conversion_of}
use Rattle.convert_matrix.proofs.Inverses.{conversion_small}
use Rattle.convert.specs.Output.{segment_output, spline_output, output_length}
use Rattle.convert.specs.Conversion.{Conversion, gives, refuses, unless, convert_segment_uses, convert_uses, converted_segment_of, converted_of}
use Rattle.convert.specs.Buffer.{answer_of, buffer_of}
use Rattle.convert.proofs.Finite as converted
use Rattle.convert.proofs.Kept.{spline_length, segment_length_lem, beyond_stays}
use Rattle.convert.proofs.Verdicts.{segment_passed, spline_passed}
use Rattle.convert.proofs.convert_segment.Reads as convert_segment
use Rattle.convert.proofs.convert_spline.Reads as convert_spline
use Rattle.calls.specs.Calls.{Keeps}
use Rattle.promises.specs.Windows.{applied_steps, window_steps}

-- ---- evaluation
pub spline_tells_finite : Keeps spline.Learnt (λ κs a z e. (v : Float) → z ≡ Ok v → T (finite v))
spline_tells_finite κs a z e p v h = spline_finite a.0 a.1.0 a.1.1.0.now v (sym p ∙ h)

pub spline_segment_tells_finite : Keeps spline_segment.Learnt (λ κs a z e. (v : Float) → z ≡ Ok v → T (finite v))
spline_segment_tells_finite κs a z e p v h = spline_segment_finite a.0 a.1.0 a.1.1.0.now v (sym p ∙ h)

-- ---- conversion: what stands in the buffer when n doubles are told as written
pub record Wrote (n need : ℕ) (out out' : List Float) : Type 0 where
  pub told : n ≡ need
  pub fits : n ≤ length out
  pub all_finite : (i : ℕ) → i < n → T (finite (get_or out' i nan))
  pub beyond : (i : ℕ) → n ≤ i → get_or out' i nan ≡ get_or out i nan

wrote : (t : Conversion) (need : ℕ) (out out' : List Float) (z : Result ℕ Refusal) → z ≡ answer_of t → out' ≡ buffer_of t out
    → ((l : List Float) → t ≡ gives l → (length l ≡ need) × (length l ≤ length out)) → ((l : List Float) → t ≡ gives l → Finite l)
    → (n : ℕ) → z ≡ Ok n → Wrote n need out out'
wrote (gives l) need out out' z a b f g n h =
    let q : length l ≡ n = cc in
    let s = f l refl in
    record {
      told = sym q ∙ s.0;
      fits = subst (λ (m : ℕ). m ≤ length out) q s.1;
      all_finite = λ i k.
          subst (λ (x : Float). T (finite x))
          (sym (ap (λ (o : List Float). get_or o i nan) b ∙ get_or-append l (drop (length l) out) nan i (omega (arith, q, k))))
          (converted.finite_at (g l refl) i (omega (arith, q, k)));
      beyond = λ i k. ap (λ (o : List Float). get_or o i nan) b ∙ beyond_stays l out i (omega (arith, q, k));
    }
wrote (refuses r) need out out' z a b f g n h = never (cc)

pub convert_segment_wrote : Keeps convert_segment.Learnt (λ κs a z e. (n : ℕ) → z ≡ Ok n → Wrote n 4 a.1.1.1.0.now e.1.1.1.0.now)
convert_segment_wrote κs a z e p n h =
    let room = length a.1.1.1.0.now in
    let cv = a.1.1.0.now in
    wrote (converted_segment_of a.0 a.1.0 cv room) 4 a.1.1.1.0.now e.1.1.1.0.now z p.0 p.1
    (λ l g. segment_length_lem a.0 a.1.0 cv room l g) (λ l g. converted.segment_finite a.0 a.1.0 cv room l g) n h

pub convert_spline_wrote : Keeps convert_spline.Learnt
    (λ κs a z e. (n : ℕ) → z ≡ Ok n → Wrote n (output_length a.0 a.1.0 (length a.1.1.0.now)) a.1.1.1.0.now e.1.1.1.0.now)
convert_spline_wrote κs a z e p n h =
    let room = length a.1.1.1.0.now in
    let ks = a.1.1.0.now in
    wrote (converted_of a.0 a.1.0 ks room) (output_length a.0 a.1.0 (length ks)) a.1.1.1.0.now e.1.1.1.0.now z p.0 p.1
    (λ l g. spline_length a.0 a.1.0 ks room l g) (λ l g. converted.spline_finite a.0 a.1.0 ks room l g) n h

-- ---- the windows of a conversion, step by step
applied_steps_lem : (m : Matrix) (cv : List Float) → Small 3 m → Four 40 cv → Finite (applied_steps m cv)
applied_steps_lem m cv s k =
    joined (joined (joined (row_finite 3 cv (row m 0) (lit≤ tt) k s.r0).steps (row_finite 3 cv (row m 1) (lit≤ tt) k s.r1).steps)
    (row_finite 3 cv (row m 2) (lit≤ tt) k s.r2).steps)
    (row_finite 3 cv (row m 3) (lit≤ tt) k s.r3).steps

window_steps_lem : (from to : Basis) (ks : List Float) (s : ℕ) → T (all_in_range ks) → s * step_of from + 4 ≤ length ks → Finite (window_steps from to ks s)
window_steps_lem from to ks s t h =
    applied_steps_lem (conversion_of from to) (drop (s * step_of from) ks) (conversion_small from to) (knots_within ks (s * step_of from) t h)

-- a conversion that wrote has passed every row
past : (v : Verdict) (l : List Float) (n : ℕ) → answer_of (unless v l) ≡ Ok n → v ≡ Ok tt
past (Ok _) l n h = refl
past (Err r) l n h = never (cc)

segment_past : (from to : Basis) (cv : List Float) (room n : ℕ) → answer_of (converted_segment_of from to cv room) ≡ Ok n
    → first (convert_segment_uses to cv room) ≡ Ok tt
unfolding converted_segment_of
segment_past from to cv room n h = past (first (convert_segment_uses to cv room)) (segment_output from to cv) n h

curve_past : (from to : Basis) (ks : List Float) (room n : ℕ) → answer_of (converted_of from to ks room) ≡ Ok n
    → first (convert_uses from to ks room) ≡ Ok tt
unfolding converted_of
curve_past from to ks room n h = past (first (convert_uses from to ks room)) (spline_output from to ks) n h

reach : (s step n : ℕ) → s * step ≤ n - 4 → 4 ≤ n → s * step + 4 ≤ n
reach s step n h g = omega arith

pub convert_segment_steps_finite : Keeps convert_segment.Learnt
    (λ κs a z e. (n : ℕ) → z ≡ Ok n → Finite (applied_steps (conversion_of a.0 a.1.0) a.1.1.0.now))
convert_segment_steps_finite κs a z e p n h =
    let cv = a.1.1.0.now in
    let r = segment_passed a.1.0 cv (length a.1.1.1.0.now) (segment_past a.0 a.1.0 cv (length a.1.1.1.0.now) n (sym p.0 ∙ h)) in
    applied_steps_lem (conversion_of a.0 a.1.0) cv (conversion_small a.0 a.1.0) (knots_within cv 0 (holds r.1.in_range_lem) (omega (arith, r.0)))

pub convert_spline_steps_finite : Keeps convert_spline.Learnt
    (λ κs a z e. (n : ℕ) → z ≡ Ok n → (s : ℕ) → s < segments_of a.0 (length a.1.1.0.now)
    → Finite (window_steps a.0 a.1.0 a.1.1.0.now s))
convert_spline_steps_finite κs a z e p n h s k =
    let ks = a.1.1.0.now in
    let r =
    spline_passed a.0 a.1.0 ks (length a.1.1.1.0.now) (curve_past a.0 a.1.0 ks (length a.1.1.1.0.now) n (sym p.0 ∙ h))
    in
    window_steps_lem a.0 a.1.0 ks s (holds r.1.in_range_lem)
    (reach s (step_of a.0) (length ks) (inside s (step_of a.0) (length ks - 4) (omega (arith, k))) r.0.least)
