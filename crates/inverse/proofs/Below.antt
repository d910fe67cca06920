-- The segment that a search enters is one of the curve's. Assumes nothing.
use mathlib.Core.Path.{◌≡◌, subst, sym, ◌∙◌}
use mathlib.Core.Bool.{Bool, true, false}
use mathlib.Core.List.{List}
use Prim.Native.Nat.{ℕ, ◌+◌, ◌*◌, ◌≤◌, ◌<◌}
use native.Mathlib.Nat.{lt_of_le_of_lt}
use lib.Dec.{lit<}
use lib.ListN.{length, replicate, length-replicate}
use Rattle.doubles.specs.Numbers.{nought}
use Rattle.inverse_segment.specs.Evaluations.{Evaluations}
use lib.Ieee.{Float, is_nan}
use Rattle.error.proofs.First.{never}
use Rattle.basis.specs.declared.Basis.{Basis}
use Rattle.basis.specs.Basis.{step_of, segments_of}
use Rattle.spline.specs.Segment.{segment_of}
use Rattle.checks.specs.Checks.{all_in_range}
use Rattle.inverse_segment.specs.declared.Stop.{Stop}
use Rattle.inverse_segment.specs.Segment.{Outcome, off, placed}
use Rattle.inverse_segment.proofs.Enclosing.{Numbers}
use Rattle.inverse_segment.specs.declared.Method.{Method}
use Rattle.inverse_segment.specs.Method.{rule_of}
use Rattle.inverse_segment.proofs.Lawful.{lawful_of}
use Rattle.inverse_search.specs.declared.SearchResult.{SearchResult}
use Rattle.inverse_search.specs.declared.SearchResult.TheVariants.{Entered}
use Rattle.inverse_search.specs.Contract.{result_of, FindIs}
use Rattle.inverse_search.specs.Trial.{trial}
use Rattle.inverse_search.specs.Search.{find}
use Rattle.inverse_search.proofs.Found.{Result, missed, got}
use Rattle.inverse_search.proofs.Sound.{SoundIn, find_sound}
use Rattle.inverse.proofs.Curve.{segments_some, segments_few, segments_fit, curve_numbers}

module _ (b : Basis) (y ε : Float) (ks : List Float) (limit k : ℕ) (e : k ≡ segments_of b (length ks)) (long : 4 ≤ length ks) (short : length ks ≤ 4096) where
  pub k_fits : k * step_of b + 4 ≤ length ks + step_of b
  k_fits = subst (λ (z : ℕ). z * step_of b + 4 ≤ length ks + step_of b) (sym e) (segments_fit b (length ks) long)

  pub k_few : k ≤ 4093
  k_few = rw e (segments_few b (length ks) short)

  pub k_some : 0 < k
  k_some = rw e (segments_some b (length ks))

  below : (m : ℕ) (N : Type 0) (o : Outcome) (s : ℕ) (a : Stop) → Result (segment_of b ks) y k (SoundIn (segment_of b ks) y ε limit) m N o
      → Entered s a ≡ result_of o → s < k
  below m N (off t) s a (missed n c) h = never (cc)
  below m N (placed q) s a (got r) h = let z : s ≡ q.segment = cc in subst (λ (i : ℕ). i < k) (sym (z ∙ r.good.1)) r.below

  pub found_below : (how : Method) (rising : Bool) → is_nan y ≡ false → all_in_range ks ≡ true → (n : ℕ) {r : SearchResult} {s : ℕ} {a : Stop} → r ≡ Entered s a
      → FindIs how b ks y ε limit rising k n r → s < k
  found_below how rising n t m {s = s} {a = a} d h =
      let ev : Evaluations = replicate m (0, nought) in
      let g = segment_of b ks in
      let numbers : (s : ℕ) → s < k → Numbers (segment_of b ks s) y = λ s l. curve_numbers b y ks long n t s (subst (λ (z : ℕ). s < z) e l) in
      below _ _ (find (trial (rule_of how) g y ε limit) y rising k ev) s a
      (find_sound g y ε limit (rule_of how) (lawful_of how) k k_some (lt_of_le_of_lt k_few (lit< tt)) numbers rising ev)
      (sym d ∙ h ev (length-replicate m (0, nought)))
