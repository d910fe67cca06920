-- The verdict of a curve's inversion, by the tests as the code makes them, and what a passed one says. Assumes nothing.
use Rattle.inverse_segment.specs.Inversion.{Inversion}
use Rattle.inverse_segment.specs.declared.Miss.TheVariants.{Refused}
use Rattle.std.specs.Prelude.{Ok, Err}
use mathlib.Core.Path.{◌≡◌, sym, ◌∙◌}
use mathlib.Core.Bool.{Bool, true, false, ◌&&◌}
use mathlib.Core.List.{List, [], ◌∷◌}
use Prim.Native.Nat.{ℕ, ◌≤◌}
use borrow.Author.Tests.{ltb-false, not-false}
use lib.ListN.{length}
use lib.Ieee.{Float, is_nan}
use Rattle.error.specs.declared.Refusal.{Refusal}
use Rattle.error.specs.Refusals.{Uses, first, Verdict}
use Rattle.error.proofs.First.{stops_in, goes_past, stops, goes_on, clear}
use Rattle.basis.specs.declared.Basis.{Basis}
use Rattle.basis.specs.Basis.{segments_of}
use Rattle.spline.specs.Segment.{segment_of}
use Rattle.checks.specs.Checks.{all_in_range, bad_knot, curve_length, asked}
use Rattle.inverse_segment.specs.declared.Method.{Method}
use Rattle.inverse_segment.specs.Method.{rule_of}
use Rattle.checks.proofs.Verdicts.{asked_rows, last_rows}
use Rattle.inverse_order.specs.Order.{turns_back, turn_back}
use Rattle.inverse_order.specs.declared.EndsBy.{EndsBy}
use Rattle.inverse.specs.EndRule.{end_rule_of}
use Rattle.inverse.specs.Curve.{located}
use Rattle.inverse.specs.Inverse.{inverse_uses, inverse_by}

-- ---- the call's rows, in the order of its tests
module _ (b : Basis) (y : Float) (ks : List Float) (check : Bool) (limit : ℕ) (ε : Float) {l : Verdict} (e : l ≡ first (curve_length b (length ks))) where
  abbrev uses : Uses
  uses = inverse_uses b y ks check limit ε

  pub by_length : {r : Refusal} → l ≡ Err r → l ≡ first uses
  by_length k = stops uses e k

  module _ (k : l ≡ Ok tt) {a : Verdict} (e_a : a ≡ first (asked y limit ε)) where
    pub by_asked : {r : Refusal} → a ≡ Err r → a ≡ first uses
    by_asked d = goes_on uses e k (stops_in asked_rows last_rows uses e_a d)

    pub by_knots : {w : Verdict} → a ≡ Ok tt → w ≡ first (bad_knot ks ∷ turn_back check ks ∷ []) → w ≡ first uses
    by_knots p d = goes_on uses e k (goes_past asked_rows last_rows uses e_a p d)

-- ---- what a passed verdict says
pub record Admitted (b : Basis) (y : Float) (ks : List Float) (check : Bool) : Type 0 where
  pub long : 4 ≤ length ks
  pub short : length ks ≤ 4096
  pub number : is_nan y ≡ false
  pub in_range_lem : all_in_range ks ≡ true
  pub in_order : (check && turns_back ks) ≡ false

pub admitted : (b : Basis) (y : Float) (ks : List Float) (check : Bool) (limit : ℕ) (ε : Float) → first (inverse_uses b y ks check limit ε) ≡ Ok tt
    → Admitted b y ks check
admitted b y ks check limit ε e =
    let p = clear (inverse_uses b y ks check limit ε) e in
    record {
      long = ltb-false (length ks) 4 (p 1);
      short = ltb-false 4096 (length ks) (p 3);
      number = p 5;
      in_range_lem = not-false (all_in_range ks) (p 4);
      in_order = p 10;
    }

-- ---- the answer
module _ (m : EndsBy) (how : Method) (b : Basis) (y : Float) (ks : List Float) (check : Bool) (limit : ℕ) (ε : Float) {v : Verdict}
    (e : v ≡ first (inverse_uses b y ks check limit ε)) where
  pub refused_is : {r : Refusal} → v ≡ Err r → Err (Refused r) ≡ inverse_by m how b y ks check limit ε
  unfolding inverse_by
  refused_is k = rw (sym e ∙ k)

  pub answer_is : {a : Inversion} → v ≡ Ok tt
      → a ≡ located (rule_of how) (end_rule_of m b ks (segment_of b ks)).ends (end_rule_of m b ks (segment_of b ks)).made (segment_of b ks)
      (segments_of b (length ks)) y ε limit → a ≡ inverse_by m how b y ks check limit ε
  unfolding inverse_by
  answer_is k h = h ∙ rw (sym e ∙ k)
