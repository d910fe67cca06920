-- Beside the crate's way, in which an entered segment's ends are evaluated twice: every answer is the same but for the count, which is lower by two where a
-- segment was entered. For any end rule and any weighting. Assumes nothing.
use Rattle.inverse_segment.specs.Inversion.{Inversion}
use Rattle.inverse_segment.specs.declared.Miss.TheVariants.{Refused, OffCurve}
use Rattle.std.specs.Prelude.{Ok, Err}
use mathlib.Core.Path.{◌≡◌, refl, ap, ◌∙◌}
use mathlib.Core.List.{List}
use mathlib.Core.Bool.{Bool, true, false, cond}
use Prim.Native.Nat.{ℕ, ◌+◌, ◌-◌}
use lib.ListN.{length}
use lib.Ieee.{Float}
use Rattle.error.specs.declared.Refusal.{Refusal}
use Rattle.error.specs.Refusals.{first, Verdict}
use Rattle.basis.specs.declared.Basis.{Basis}
use Rattle.basis.specs.Basis.{segments_of}
use Rattle.doubles.specs.Numbers.{nought, one}
use Rattle.spline.specs.Segment.{segment_of}
use Rattle.inverse_segment.specs.declared.Place.{Place}
use Rattle.inverse_segment.specs.Evaluations.{Evaluations}
use Rattle.inverse_segment.specs.Round.{Rule}
use Rattle.inverse_segment.specs.Rounds.{Arrival}
use Rattle.inverse_segment.specs.Segment.{Outcome}
use Rattle.inverse_segment.specs.Answer.{place_of, answered, inverted}
use Rattle.inverse_segment.specs.declared.Method.{Method}
use Rattle.inverse_segment.specs.Method.{rule_of}
use Rattle.inverse_segment.proofs.Later.{is_end, More}
use Rattle.inverse_search.specs.Search.{find}
use Rattle.inverse_search.specs.Twice.{trial_twice}
use Rattle.inverse_search.proofs.Fewer as search
use Rattle.inverse.specs.declared.Ends.{Ends}
use Rattle.inverse_order.specs.declared.EndsBy.{EndsBy}
use Rattle.inverse.specs.EndRule.{at_low, at_high, end_rule_of}
use Rattle.inverse.specs.Curve.{parameter_of, ended, located}
use Rattle.inverse.specs.Inverse.{inverse_uses, inverse_by}

-- q is p with n more counted
pub record CountDiffers (n : ℕ) (p q : Place) : Type 0 where
  pub parameter : q.parameter ≡ p.parameter
  pub ground : q.ground ≡ p.ground
  pub segment : q.segment ≡ p.segment
  pub local : q.local ≡ p.local
  pub lower : q.lower ≡ p.lower
  pub upper : q.upper ≡ p.upper
  pub count : q.count ≡ p.count + n

-- n fewer where a segment was entered; and where none was, the two answers are one: a refusal, refusal 11 or a place by the end rule
pub data Fewer (n : ℕ) : Inversion → Inversion → Type 0 where
  refused : {r : Refusal} → Fewer n (Err (Refused r)) (Err (Refused r))
  off_curve : {c : ℕ} → Fewer n (Err (OffCurve c)) (Err (OffCurve c))
  by_end : {p : Place} → is_end p.ground ≡ true → Fewer n (Ok p) (Ok p)
  fewer : {p q : Place} → is_end p.ground ≡ false → CountDiffers n p q → Fewer n (Ok p) (Ok q)

either : (n : ℕ) (t : Bool) {a b c d : Inversion} → Fewer n a c → Fewer n b d → Fewer n (cond t a b) (cond t c d)
either n true p q = p
either n false p q = q

counted : (P : ℕ → Float → Float) (n : ℕ) (p q : Arrival) → More n p q → CountDiffers n (place_of P p) (place_of P q)
counted P n p q m =
    record {
      parameter = ap (λ (s : ℕ). P s q.local) m.segment ∙ ap (P p.segment) m.local;
      ground = m.ground;
      segment = m.segment;
      local = m.local;
      lower = m.lower;
      upper = m.upper;
      count = m.count;
    }

told : (P : ℕ → Float → Float) (n : ℕ) {o q : Outcome} → search.Fewer n o q → Fewer n (answered P o) (answered P q)
told P n search.same = off_curve
told P n (search.fewer {p} {q} m) = fewer m.searched (counted P n p q m)

module _ (R : Rule) (e : Ends) (ev : Evaluations) (g : ℕ → Float → Float) (k : ℕ) (y ε : Float) (limit : ℕ) where
  -- the answer past the refusals, by the crate's trial
  abbrev pub located_twice : Inversion
  located_twice =
      let searched = answered (parameter_of k) (find (trial_twice R g y ε limit) y e.rising k ev) in
      cond (at_low e y) (ended ev 0 nought) (cond (at_high e y) (ended ev (k - 1) one) searched)

  pub located_fewer : Fewer 2 (located R e ev g k y ε limit) located_twice
  unfolding located
  located_fewer =
      either 2 (at_low e y) (by_end refl) (either 2 (at_high e y) (by_end refl) (told (parameter_of k) 2 (search.find_fewer R g y ε limit e.rising k ev)))

-- ---- the call
module _ (m : EndsBy) (how : Method) (b : Basis) (y : Float) (ks : List Float) (check : Bool) (limit : ℕ) (ε : Float) where
  -- as the call would answer if each segment that it enters had its ends evaluated twice
  abbrev pub twice : Inversion
  twice =
      let r = end_rule_of m b ks (segment_of b ks) in
      inverted (first (inverse_uses b y ks check limit ε)) (located_twice (rule_of how) r.ends r.made (segment_of b ks) (segments_of b (length ks)) y ε limit)

  pub inverse_fewer : Fewer 2 (inverse_by m how b y ks check limit ε) twice
  unfolding inverse_by
  inverse_fewer = go (first (inverse_uses b y ks check limit ε))
    where
      go : (v : Verdict) → let r = end_rule_of m b ks (segment_of b ks) in
          Fewer 2 (inverted v (located (rule_of how) r.ends r.made (segment_of b ks) (segments_of b (length ks)) y ε limit))
          (inverted v (located_twice (rule_of how) r.ends r.made (segment_of b ks) (segments_of b (length ks)) y ε limit))
      go (Ok _) = let r = end_rule_of m b ks (segment_of b ks)
          in located_fewer (rule_of how) r.ends r.made (segment_of b ks) (segments_of b (length ks)) y ε limit
      go (Err r) = refused
