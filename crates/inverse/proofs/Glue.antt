-- The inversion of a curve, put together from what the code's calls give. Assumes nothing.
use Rattle.inverse_segment.specs.Inversion.{Inversion}
use Rattle.inverse_segment.specs.declared.Miss.TheVariants.{OffCurve}
use Rattle.std.specs.Prelude.{Err, Ok}
use mathlib.Core.Path.{◌≡◌, refl, sym, ap, ◌∙◌}
use mathlib.Core.List.{List}
use mathlib.Core.Bool.{true, false}
use Prim.Native.Nat.{ℕ, ◌-◌, ◌*◌}
use lib.ListN.{length, drop}
use lib.Ieee.{Float, lt}
use Rattle.error.proofs.First.{never}
use Rattle.doubles.specs.Numbers.{nought, one}
use Rattle.inverse_segment.specs.declared.Place.{Place}
use Rattle.inverse_segment.specs.declared.Stop.{Stop}
use Rattle.inverse_segment.specs.Segment.{Outcome, off, placed}
use Rattle.inverse_segment.specs.Answer.{answered}
use Rattle.inverse_segment.specs.Contract.{stop_of, place_at}
use Rattle.inverse_segment.proofs.Stops.{place_at_lem}
use Rattle.basis.specs.declared.Basis.{Basis}
use Rattle.basis.specs.Basis.{step_of, matrix_of, segments_of}
use Rattle.spline.specs.declared.RowSums.{RowSums}
use Rattle.spline.specs.Segment.{row_sums_of, horner_of, segment_of}
use Rattle.inverse_segment.specs.Evaluations.{Evaluations}
use Rattle.inverse_segment.specs.declared.Method.{Method}
use Rattle.inverse_segment.specs.Round.{Rule}
use Rattle.inverse_segment.specs.Method.{rule_of}
use Rattle.inverse_search.specs.declared.SearchResult.{SearchResult}
use Rattle.inverse_search.specs.declared.SearchResult.TheVariants.{OffCurve as NotOn, Entered}
use Rattle.inverse_search.specs.Contract.{result_of, count_in}
use Rattle.inverse_search.specs.Trial.{trial}
use Rattle.inverse_search.specs.Search.{find}
use Rattle.inverse.specs.declared.Ends.{Ends}
use Rattle.inverse_order.specs.declared.EndsBy.{EndsBy}
use Rattle.inverse_order.specs.declared.EndsBy.TheVariants.{Knots, Curve}
use Rattle.inverse.specs.Contract.{LocatedIs}
use Rattle.inverse.specs.EndRule.{at_low, at_high, knot_ends, curve_rule, end_rule_of, own}
use Rattle.inverse.specs.Curve.{parameter_of, ended, located}

-- ---- the search's answer, with the parameter
module _ (P : ℕ → Float → Float) (o : Outcome) {r : SearchResult} where
  pub off_kept : {m n : ℕ} → r ≡ NotOn m → r ≡ result_of o → n ≡ count_in r → Err (OffCurve n) ≡ answered P o
  off_kept {m} {n} d e i = go o e
    where
      go : (o : Outcome) → r ≡ result_of o → Err (OffCurve n) ≡ answered P o
      go (off ev) e = ap (λ a. Err (OffCurve a)) (i ∙ ap count_in e)
      go (placed p) e = never (cc)

  pub with_parameter : {s : ℕ} {a : Stop} {x : Float} {p : Place} → r ≡ Entered s a → r ≡ result_of o → x ≡ P s a.local → p ≡ place_at x s a
      → Ok p ≡ answered P o
  with_parameter {s} {a} {x} {p} d e h z = go o (sym d ∙ e)
    where
      go : (o : Outcome) → Entered s a ≡ result_of o → Ok p ≡ answered P o
      go (off ev) e = never (cc)
      go (placed q) e =
          let n : q.segment ≡ s = cc in
          let t : a ≡ stop_of q = cc in
          ap Ok (z ∙ place_at_lem P q n t h)

-- ---- the end rule's two tests, then the search
module _ (R : Rule) (e : Ends) (ev : Evaluations) (g : ℕ → Float → Float) (k : ℕ) (y ε : Float) (limit : ℕ) {r : Inversion} where
  pub located_low : at_low e y ≡ true → r ≡ ended ev 0 nought → r ≡ located R e ev g k y ε limit
  unfolding located
  located_low t h = h ∙ simp t

  pub located_high : at_low e y ≡ false → at_high e y ≡ true → r ≡ ended ev (k - 1) one → r ≡ located R e ev g k y ε limit
  unfolding located
  located_high t u h = h ∙ simp (t, u)

  pub located_searched : at_low e y ≡ false → at_high e y ≡ false → r ≡ answered (parameter_of k) (find (trial R g y ε limit) y e.rising k ev)
      → r ≡ located R e ev g k y ε limit
  unfolding located
  located_searched t u h = h ∙ simp (t, u)

-- ---- the end rule that is asked for
pub rule_made : (m : EndsBy) (b : Basis) (ks : List Float) (g : ℕ → Float → Float) → length (end_rule_of m b ks g).made ≡ own m
rule_made Knots b ks g = refl
rule_made Curve b ks g = refl

module _ (m : EndsBy) (b : Basis) (ks : List Float) (k : ℕ) (q : k ≡ segments_of b (length ks)) where
  -- e is what it goes by, as the code has it
  pub curve_ends_in : {e : Ends} → m ≡ Curve → e ≡ (curve_rule (segment_of b ks) k).ends → e ≡ (end_rule_of m b ks (segment_of b ks)).ends
  curve_ends_in t h = rw t (h ∙ ap (λ (z : ℕ). (curve_rule (segment_of b ks) z).ends) q)

  pub knot_ends_in : {e : Ends} → m ≡ Knots → e ≡ knot_ends b ks → e ≡ (end_rule_of m b ks (segment_of b ks)).ends
  knot_ends_in t h = rw t h

  pub by_rule : (how : Method) (y ε : Float) (limit n : ℕ) {r : Inversion} (e : Ends) → e ≡ (end_rule_of m b ks (segment_of b ks)).ends → n ≡ own m
      → LocatedIs how e b y ks limit ε k n r
      → r ≡ located (rule_of how) (end_rule_of m b ks (segment_of b ks)).ends (end_rule_of m b ks (segment_of b ks)).made (segment_of b ks)
      (segments_of b (length ks)) y ε limit
  by_rule how y ε limit n e p o i =
      let g = segment_of b ks in
      let ev = (end_rule_of m b ks g).made in
      i ev (rule_made m b ks g ∙ sym o) ∙ ap (λ (z : Ends). located (rule_of how) z ev g k y ε limit) p
      ∙ ap (λ (z : ℕ). located (rule_of how) (end_rule_of m b ks g).ends ev g z y ε limit) q

-- ---- the curve's own ends, from the row sums of its first and last segment
pub ends_are : (b : Basis) (ks : List Float) (k : ℕ) {w0 w1 : RowSums} {v0 v1 : Float} → w0 ≡ row_sums_of (matrix_of b) (drop (0 * step_of b) ks)
    → v0 ≡ horner_of w0 nought → w1 ≡ row_sums_of (matrix_of b) (drop ((k - 1) * step_of b) ks) → v1 ≡ horner_of w1 one
    → ◌≡◌ {A = Ends} (record { rising = lt v0 v1; low = v0; high = v1 }) (curve_rule (segment_of b ks) k).ends
ends_are b ks k {w0} {w1} {v0} {v1} a c d e =
    let p : v0 ≡ segment_of b ks 0 nought = c ∙ ap (λ (w : RowSums). horner_of w nought) a in
    let q : v1 ≡ segment_of b ks (k - 1) one = e ∙ ap (λ (w : RowSums). horner_of w one) d in
    rw (p, q)
