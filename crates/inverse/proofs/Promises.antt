-- What the inversion of a curve promises on every input, by either rule m of the ends. b, y, ks, check, limit and ε are the call's arguments: basis, target,
-- knots, order check yes or no, limit, precision. Assumes nothing.
use Rattle.inverse_segment.specs.Inversion.{Inversion}
use Rattle.inverse_segment.specs.declared.Miss.TheVariants.{Refused, OffCurve}
use Rattle.std.specs.Prelude.{Ok, Err}
use mathlib.Core.Path.{◌≡◌, refl, sym, ap, ◌∙◌, subst}
use mathlib.Core.Bool.{Bool}
use mathlib.Core.List.{List}
use Prim.Native.Nat.{ℕ, ◌+◌, ◌*◌, ◌≤◌, ◌<◌}
use native.Mathlib.Nat.{le_trans}
use native.Mathlib.Omega.{arith}
use borrow.Author.Tests.{le-leb, lt-leb}
use lib.Dec.{T}
use lib.ListN.{length}
use lib.Ieee.{Float}
use Rattle.error.specs.declared.Refusal.{Refusal}
use Rattle.error.specs.Refusals.{first, Verdict}
use Rattle.basis.specs.declared.Basis.{Basis}
use Rattle.basis.specs.Basis.{segments_of}
use Rattle.spline.specs.Segment.{segment_of}
use Rattle.inverse_segment.specs.declared.Place.{Place}
use Rattle.inverse_segment.specs.Agreed.{Agreed}
use Rattle.inverse_segment.specs.Answer.{inverted, count_told, unless_refused}
use Rattle.inverse_segment.specs.declared.Method.{Method}
use Rattle.inverse_segment.specs.Method.{rule_of}
use Rattle.inverse_segment.proofs.Lawful.{lawful_of}
use Rattle.inverse_segment.proofs.Enclosing.{Numbers}
use Rattle.inverse_search.specs.Bound.{bits_of, bound_of}
use Rattle.inverse_search.proofs.Found.{Holds}
use Rattle.inverse_order.specs.declared.EndsBy.{EndsBy}
use Rattle.inverse_order.specs.declared.EndsBy.TheVariants.{Knots, Curve}
use Rattle.inverse.specs.EndRule.{EndRule, end_rule_of, own}
use Rattle.inverse.specs.Curve.{located, evaluations}
use Rattle.inverse.specs.Inverse.{inverse_uses, inverse_by, evaluations_by}
use Rattle.inverse.proofs.Cases.{Silent, NoneHolds, Supposed}
use Rattle.inverse.proofs.Facts.{
  AtPlace,
  IfOff,
  Proper,
  Enclosed,
  GroundSays,
  count_is_length,
  rule_listed,
  none_unlisted,
  count_bounded,
  place_proper,
  place_enclosed,
  ground_says,
  off_only,
  off_where,
  place_where,
}
use Rattle.inverse.proofs.Glue.{rule_made}
use Rattle.inverse.proofs.Curve.{segments_some, segments_few, curve_numbers}
use Rattle.inverse.proofs.Verdicts.{Admitted, admitted}

-- curves that agree at these have the same rule
rule_same : (m : EndsBy) (b : Basis) (ks : List Float) (g h : ℕ → Float → Float) → Agreed g h (end_rule_of m b ks g).made
    → end_rule_of m b ks g ≡ end_rule_of m b ks h
rule_same Knots b ks g h a = refl
rule_same Curve b ks g h a = rw (a.0, a.1.0)

with_pass : (P Q R : Type 0) (r : Inversion) → P → IfOff (Q × R) r → IfOff (P × Q × R) r
with_pass P Q R (Ok p) e h = tt
with_pass P Q R (Err (OffCurve n)) e h = (e, h.0, h.1)
with_pass P Q R (Err (Refused r)) e h = tt

module _ (m : EndsBy) (how : Method) (b : Basis) (y : Float) (ks : List Float) (check : Bool) (limit : ℕ) (ε : Float) where
  abbrev pub k : ℕ
  k = segments_of b (length ks)

  -- what the end rule goes by
  abbrev pub rule : EndRule
  rule = end_rule_of m b ks (segment_of b ks)

  -- the answer past the refusals
  abbrev pub here : Inversion
  here = located (rule_of how) rule.ends rule.made (segment_of b ks) (segments_of b (length ks)) y ε limit

  -- no row of the refusal table applies
  abbrev pub Pass : Type 0
  Pass = first (inverse_uses b y ks check limit ε) ≡ Ok tt

  -- the end rule is silent
  abbrev pub Quiet : Type 0
  Quiet = Silent rule.ends rule.made (segment_of b ks) k y ε limit

  -- no segment's ends enclose the target
  abbrev pub Nowhere : Type 0
  Nowhere = NoneHolds rule.ends rule.made (segment_of b ks) k y ε limit

  -- above 12 segments: evaluated starts, and evaluated ends, never turn against the rule's direction
  abbrev pub Premise : Type 0
  Premise = Supposed rule.ends rule.made (segment_of b ks) k y ε limit

  pub by_verdict : (P : Inversion → Type 0) → ((r : Refusal) → P (Err (Refused r))) → (Admitted b y ks check → P here)
      → P (inverse_by m how b y ks check limit ε)
  unfolding inverse_by
  by_verdict P f h = go (first (inverse_uses b y ks check limit ε)) refl
    where
      go : (v : Verdict) → first (inverse_uses b y ks check limit ε) ≡ v → P (inverted v here)
      go (Ok _) e = h (admitted b y ks check limit ε e)
      go (Err r) e = f r

  pub numbers : Admitted b y ks check → (s : ℕ) → s < k → Numbers (segment_of b ks s) y
  numbers a = curve_numbers b y ks a.long a.number a.in_range_lem

  pub fits : Admitted b y ks check → k ≤ 4093
  fits a = segments_few b (length ks) a.short

  pub some : 0 < k
  some = segments_some b (length ks)

  -- ---- the list of evaluations
  -- the count is its length
  pub inverse_count : count_told (inverse_by m how b y ks check limit ε) ≡ length (evaluations_by m how b y ks check limit ε)
  unfolding inverse_by evaluations_by
  inverse_count = go (first (inverse_uses b y ks check limit ε))
    where
      go : (v : Verdict)
          → count_told (inverted v here) ≡ length (unless_refused v (evaluations (rule_of how) rule.ends rule.made (segment_of b ks) k y ε limit))
      go (Ok _) = count_is_length (rule_of how) rule.ends rule.made (segment_of b ks) k y ε limit
      go (Err r) = refl

  -- it misses none: a curve h that agrees with this one at every listed place gets the same answer
  pub inverse_unlisted : (h : ℕ → Float → Float) → Agreed (segment_of b ks) h (evaluations_by m how b y ks check limit ε)
      → inverse_by m how b y ks check limit ε ≡ inverted (first (inverse_uses b y ks check limit ε))
      (located (rule_of how) (end_rule_of m b ks h).ends (end_rule_of m b ks h).made h k y ε limit)
  unfolding inverse_by evaluations_by
  inverse_unlisted h = go (first (inverse_uses b y ks check limit ε))
    where
      go : (v : Verdict) → Agreed (segment_of b ks) h (unless_refused v (evaluations (rule_of how) rule.ends rule.made (segment_of b ks) k y ε limit))
          → inverted v here ≡ inverted v (located (rule_of how) (end_rule_of m b ks h).ends (end_rule_of m b ks h).made h k y ε limit)
      go (Ok _) a =
          none_unlisted (rule_of how) rule.ends rule.made (segment_of b ks) k y ε limit h a
          ∙ ap (λ (r : EndRule). located (rule_of how) r.ends r.made h k y ε limit)
          (rule_same m b ks (segment_of b ks) h (rule_listed (rule_of how) rule.ends rule.made (segment_of b ks) k y ε limit h a))
      go (Err r) a = refl

  -- a place and refusal 11 carry at most so many
  pub inverse_bounded : count_told (inverse_by m how b y ks check limit ε) ≤ own m + bound_of k limit
  inverse_bounded =
      by_verdict (λ r. count_told r ≤ own m + bound_of k limit) (λ r. omega arith)
      (λ a. le_trans (count_bounded (rule_of how) (lawful_of how) rule.ends rule.made (segment_of b ks) k y ε limit some (fits a) (numbers a))
      (omega (arith, rule_made m b ks (segment_of b ks))))

  pub few_bound : k ≤ 12 → bound_of k limit ≡ limit + 24
  few_bound h = rw (le-leb k 12 h)

  pub many_bound : 12 < k → bound_of k limit ≡ limit + 2 * bits_of k + 4
  many_bound h = rw (lt-leb k 12 h)

  -- ---- parameter, local place and both bracket ends lie in 0 to 1, lower not above upper
  pub inverse_proper : AtPlace Proper (inverse_by m how b y ks check limit ε)
  inverse_proper =
      by_verdict (AtPlace Proper) (λ r. tt)
      (λ a. place_proper (rule_of how) (lawful_of how) rule.ends rule.made (segment_of b ks) k y ε limit some (fits a) (numbers a))

  -- ---- where a segment was entered: its values at the two bracket ends enclose the target, and so do those at its own ends; the local place lies between the
  -- bracket's ends
  pub inverse_enclosed : AtPlace (λ p. Enclosed rule.ends rule.made (segment_of b ks) k y ε limit p.ground p) (inverse_by m how b y ks check limit ε)
  inverse_enclosed =
      by_verdict (AtPlace (λ p. Enclosed rule.ends rule.made (segment_of b ks) k y ε limit p.ground p)) (λ r. tt)
      (λ a. place_enclosed (rule_of how) (lawful_of how) rule.ends rule.made (segment_of b ks) k y ε limit some (fits a) (numbers a))

  -- ---- what the ground says
  pub inverse_ground : AtPlace (λ p. GroundSays rule.ends rule.made (segment_of b ks) k y ε limit p.ground p) (inverse_by m how b y ks check limit ε)
  inverse_ground =
      by_verdict (AtPlace (λ p. GroundSays rule.ends rule.made (segment_of b ks) k y ε limit p.ground p)) (λ r. tt)
      (λ a. ground_says (rule_of how) (lawful_of how) rule.ends rule.made (segment_of b ks) k y ε limit some (fits a) (numbers a))

  -- ---- where some segment's ends enclose the target, and the end rule is silent, a segment is entered and not refused
  pub inverse_entered : Pass → Quiet → Premise
      → (s : ℕ) → s < k → T (Holds (segment_of b ks) y k s) → (p : Place) × (inverse_by m how b y ks check limit ε ≡ Ok p)
  unfolding inverse_by
  inverse_entered v q S s l H =
      let a = admitted b y ks check limit ε v in
      rw v (place_where (rule_of how) (lawful_of how) rule.ends rule.made (segment_of b ks) k y ε limit some (fits a) (numbers a) q S s l H)

  -- ---- refusal 11 only where no row applies, the end rule is silent and no segment's ends enclose the target
  pub inverse_off_only : IfOff (Pass × Quiet × (Premise → Nowhere)) (inverse_by m how b y ks check limit ε)
  unfolding inverse_by
  inverse_off_only = go (first (inverse_uses b y ks check limit ε)) refl
    where
      go : (v : Verdict) → first (inverse_uses b y ks check limit ε) ≡ v → IfOff (Pass × Quiet × (Premise → Nowhere)) (inverted v here)
      go (Ok _) e = let a = admitted b y ks check limit ε e
          in with_pass Pass Quiet (Premise → Nowhere) here e
          (off_only (rule_of how) (lawful_of how) rule.ends rule.made (segment_of b ks) k y ε limit some (fits a) (numbers a))
      go (Err r) e = tt

  -- and everywhere there
  pub inverse_off_where : Pass → Quiet → Nowhere
      → (n : ℕ) × (inverse_by m how b y ks check limit ε ≡ Err (OffCurve n))
  unfolding inverse_by
  inverse_off_where v q N =
      let a = admitted b y ks check limit ε v in
      rw v (off_where (rule_of how) (lawful_of how) rule.ends rule.made (segment_of b ks) k y ε limit some (fits a) (numbers a) q N)

  -- ---- all of these of a reply r, as the call's contract gives it
  pub record Promised (r : Inversion) : Type 0 where
    pub count : count_told r ≡ length (evaluations_by m how b y ks check limit ε)
    pub unlisted : (h : ℕ → Float → Float) → Agreed (segment_of b ks) h (evaluations_by m how b y ks check limit ε)
        → r ≡ inverted (first (inverse_uses b y ks check limit ε)) (located (rule_of how) (end_rule_of m b ks h).ends (end_rule_of m b ks h).made h k y ε limit)
    pub few : k ≤ 12 → count_told r ≤ own m + (limit + 24)
    pub many : 12 < k → count_told r ≤ own m + (limit + 2 * bits_of k + 4)
    pub proper : AtPlace Proper r
    pub enclosed : AtPlace (λ p. Enclosed rule.ends rule.made (segment_of b ks) k y ε limit p.ground p) r
    pub ground : AtPlace (λ p. GroundSays rule.ends rule.made (segment_of b ks) k y ε limit p.ground p) r
    pub off_only : IfOff (Pass × Quiet × (Premise → Nowhere)) r
    pub off_where : Pass → Quiet → Nowhere → (n : ℕ) × (r ≡ Err (OffCurve n))

  pub reply_promised : (r : Inversion) → r ≡ inverse_by m how b y ks check limit ε → Promised r
  reply_promised r e =
      subst Promised (sym e)
      (record {
        count = inverse_count;
        unlisted = inverse_unlisted;
        few = λ h. omega (arith, inverse_bounded, few_bound h);
        many = λ h. omega (arith, inverse_bounded, many_bound h);
        proper = inverse_proper;
        enclosed = inverse_enclosed;
        ground = inverse_ground;
        off_only = inverse_off_only;
        off_where = inverse_off_where;
      })
