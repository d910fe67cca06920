-- Which refusal the inversion of a curve gives, and when it says that the knots turn back. Assumes nothing.
use Rattle.inverse_segment.specs.declared.Miss.TheVariants.{Refused}
use Rattle.std.specs.Prelude.{Err}
use mathlib.Core.Path.{◌≡◌, refl, sym, subst}
use mathlib.Core.Bool.{Bool, true, ◌&&◌}
use mathlib.Core.List.{List, ◌∷◌}
use Prim.Native.Nat.{ℕ, ◌≤◌}
use lib.Dec.{T}
use lib.ListN.{length}
use lib.Ieee.{Float}
use lib.Ieee.Bits.{is_true}
use lib.Ieee.Fits.{and_l, and_r}
use Rattle.error.specs.declared.Refusal.{Refusal}
use Rattle.error.specs.declared.Refusal.TheVariants.{TurnsBack}
use Rattle.error.specs.Refusals.{Uses, rows, first_of, first}
use Rattle.error.proofs.First.{through, after, goes_past, None, none_pass, First, first_sound, first_complete, first_applies}
use Rattle.basis.specs.declared.Basis.{Basis}
use Rattle.basis.specs.Basis.{segments_of}
use Rattle.doubles.proofs.Tests.{branch}
use Rattle.spline.specs.Segment.{segment_of}
use Rattle.inverse_segment.proofs.Verdicts.{Past, answered_past, refused_by}
use Rattle.inverse_segment.specs.declared.Method.{Method}
use Rattle.inverse_segment.specs.Method.{rule_of}
use Rattle.inverse_search.specs.Trial.{trial}
use Rattle.inverse_search.specs.Search.{find}
use Rattle.inverse_order.specs.Order.{turns_back, turning_knot}
use Rattle.inverse_order.specs.declared.EndsBy.{EndsBy}
use Rattle.inverse.specs.EndRule.{at_low, at_high, end_rule_of}
use Rattle.inverse.specs.Curve.{parameter_of, located}
use Rattle.inverse.specs.Inverse.{inverse_uses, inverse_by}
use Rattle.inverse_order.proofs.TurnsBack.{AgainstAt, turning_first, turns_back_where}

-- every row before refusal 10
abbrev pub earlier : List ℕ
earlier = through 4 rows

module _ (m : EndsBy) (how : Method) (b : Basis) (y : Float) (ks : List Float) (check : Bool) (limit : ℕ) (ε : Float) where
  abbrev uses : Uses
  uses = inverse_uses b y ks check limit ε

  located_past : Past (located (rule_of how) (end_rule_of m b ks (segment_of b ks)).ends (end_rule_of m b ks (segment_of b ks)).made (segment_of b ks)
      (segments_of b (length ks)) y ε limit)
  unfolding located
  located_past =
      branch Past (at_low (end_rule_of m b ks (segment_of b ks)).ends y) (λ _. tt)
      (λ _. branch Past (at_high (end_rule_of m b ks (segment_of b ks)).ends y) (λ _. tt)
      (λ _. answered_past (parameter_of (segments_of b (length ks)))
      (find (trial (rule_of how) (segment_of b ks) y ε limit) y (end_rule_of m b ks (segment_of b ks)).ends.rising (segments_of b (length ks))
      (end_rule_of m b ks (segment_of b ks)).made)))

  -- ---- by a row
  -- only where that row applies and none before it
  pub inverse_refused_only : (r : Refusal) → inverse_by m how b y ks check limit ε ≡ Err (Refused r) → First (inverse_uses b y ks check limit ε) rows r
  unfolding inverse_by
  inverse_refused_only r e =
      first_sound rows uses r (refused_by (first uses)
      (located (rule_of how) (end_rule_of m b ks (segment_of b ks)).ends (end_rule_of m b ks (segment_of b ks)).made (segment_of b ks)
      (segments_of b (length ks)) y ε limit) r located_past e)

  -- and everywhere there
  pub inverse_refused_where : (r : Refusal) → First (inverse_uses b y ks check limit ε) rows r → inverse_by m how b y ks check limit ε ≡ Err (Refused r)
  unfolding inverse_by
  inverse_refused_where r f = rw (first_complete rows uses r f)

  -- ---- refusal 10
  -- only where the order check is wanted, and with the first knot whose step to the next goes against the direction
  pub inverse_turns_back : (i : ℕ) → inverse_by m how b y ks check limit ε ≡ Err (Refused (TurnsBack i))
      → T check × AgainstAt ks i × ((j : ℕ) → AgainstAt ks j → i ≤ j)
  inverse_turns_back i e =
      let p = first_applies uses rows (TurnsBack i) (inverse_refused_only (TurnsBack i) e) in
      let a : (check && turns_back ks) ≡ true = p.0 in
      let w : TurnsBack (turning_knot ks) ≡ TurnsBack i = p.1 in
      let q : turning_knot ks ≡ i = cc in
      let t : T (check && turns_back ks) = rw a tt in
      let f = turning_first ks (and_r check (turns_back ks) t) in
      (and_l check (turns_back ks) t, subst (AgainstAt ks) q f.0, subst (λ (i : ℕ). (j : ℕ) → AgainstAt ks j → i ≤ j) q f.1)

  -- and everywhere there where no earlier row applies
  pub inverse_turns_back_where : None earlier (inverse_uses b y ks check limit ε) → T check → (i : ℕ) → AgainstAt ks i
      → inverse_by m how b y ks check limit ε ≡ Err (Refused (TurnsBack (turning_knot ks)))
  unfolding inverse_by
  inverse_turns_back_where n c i a =
      let later : List ℕ = after 10 rows in
      let q : (check && turns_back ks) ≡ true = rw (is_true check c, is_true (turns_back ks) (turns_back_where ks i a)) in
      let s : first_of (10 ∷ later) uses ≡ Err (TurnsBack (turning_knot ks)) = simp q in
      let v : first uses ≡ Err (TurnsBack (turning_knot ks)) = sym (goes_past earlier (10 ∷ later) uses (sym (none_pass earlier uses n)) refl (sym s)) in
      rw v
