-- Which answer is given where: each of the eight by its own test, whatever order the definition tries them in, since by the order of doubles no two of the
-- tests hold at once. Assumes nothing.
use Rattle.stopped.specs.declared.Job.{Job}
use Rattle.stopped.specs.declared.Job.TheVariants.{Flat, Before, Start, UnderWay, End, Beyond}
use Rattle.inverse_segment.specs.declared.Miss.{Miss}
use Rattle.inverse_segment.specs.declared.Place.{Place}
use Rattle.inverse_segment.specs.Inversion.{Inversion}
use Rattle.inverse_segment.specs.declared.Miss.TheVariants.{Refused, OffCurve}
use Rattle.std.specs.Prelude.{Ok, Err, Result, ℕ}
use mathlib.Core.Path.{◌≡◌, refl, sym, ap, ◌∙◌, subst}
use mathlib.Core.Bool.{Bool, true, false, not, cond}
use mathlib.Core.List.{List, ◌∷◌}
use Prim.Native.Nat.{ℕ, ◌-◌, ◌<◌}
use native.Mathlib.Omega.{arith}
use borrow.Author.Tests.{not-false}
use lib.Dec.{T}
use lib.ListN.{length}
use lib.Ieee.{Float, eq, is_nan}
use lib.Ieee.Bits.{is_true, is_false}
use Rattle.basis.specs.Basis.{segments_of}
use Rattle.doubles.specs.Numbers.{nought, one}
use Rattle.doubles.proofs.Tests.{holds, fails}
use Rattle.doubles.proofs.Units.{nought_in, one_in}
use Rattle.error.specs.declared.Refusal.{Refusal}
use Rattle.error.specs.Refusals.{rows, first, Verdict}
use Rattle.error.proofs.First.{never, First, clear, first_sound, first_complete}
use Rattle.inverse.specs.declared.Ends.{Ends}
use Rattle.inverse.specs.Inverse.{inverse_by}
use Rattle.inverse.proofs.Curve.{segments_some, curve_numbers}
use Rattle.inverse.proofs.Refusing.{inverse_refused_only}
use Rattle.inverse.proofs.Verdicts.{Admitted, admitted}
use Rattle.inverse_segment.specs.declared.Method.TheVariants.{Steady}
use Rattle.inverse_segment.specs.Method.{steady_limit}
use Rattle.inverse_order.specs.declared.EndsBy.TheVariants.{Curve}
use Rattle.inverse_segment.specs.Answer.{default_precision}
use Rattle.inverse_segment.proofs.Enclosing.{Numbers}
use Rattle.spline.specs.Segment.{segment_of}
use Rattle.stopped.specs.Stopped.{ends_of, is_before, is_beyond, between, said_of, stopped_uses, said_unless, stopped_of}
use Rattle.stopped.proofs.Between.{is_between, end_alone, before_alone, beyond_alone, nothing_else, between_alone}
use Rattle.table.specs.Calls.{verdict_of, timed_of, table_inverse_by}
use Rattle.table.proofs.Spans.{good_verdict, inverse_base}
use Rattle.table_span.specs.declared.Table.{Table}
use Rattle.table_span.specs.Second.{good_span, bad_span}

-- ---- an answer, by the five tests in their order
module _ (flat start end before beyond : Bool) (x : Result (Place × ℕ) Miss) where
  abbrev None : Type 0
  None = (flat ≡ false) × (start ≡ false) × (end ≡ false) × (before ≡ false) × (beyond ≡ false)

  abbrev Tried : Result Job Miss → Type 0
  Tried (Err (Refused r)) = x ≡ Err (Refused r)
  Tried (Err (OffCurve n)) = None × (x ≡ Err (OffCurve n))
  Tried (Ok Flat) = flat ≡ true
  Tried (Ok Before) = (flat ≡ false) × (before ≡ true)
  Tried (Ok Start) = (flat ≡ false) × (start ≡ true)
  Tried (Ok (UnderWay s p)) = None × (x ≡ Ok (p, s))
  Tried (Ok End) = (flat ≡ false) × (end ≡ true)
  Tried (Ok Beyond) = (flat ≡ false) × (beyond ≡ true)

tried_last : (x : Result (Place × ℕ) Miss) → Tried false false false false false x (between x)
tried_last (Err (Refused r)) = refl
tried_last (Err (OffCurve n)) = ((refl, refl, refl, refl, refl), refl)
tried_last (Ok (p, s)) = ((refl, refl, refl, refl, refl), refl)

tried : (a c d f g : Bool) (x : Result (Place × ℕ) Miss)
    → Tried a c d f g x (cond a (Ok Flat) (cond c (Ok Start) (cond d (Ok End) (cond f (Ok Before) (cond g (Ok Beyond) (between x))))))
tried true c d f g x = refl
tried false true d f g x = (refl, refl)
tried false false true f g x = (refl, refl)
tried false false false true g x = (refl, refl)
tried false false false false true x = (refl, refl)
tried false false false false false x = tried_last x

timed_refused : (s : ℕ) (i : Inversion) (r : Refusal) → timed_of s i ≡ Err (Refused r) → i ≡ Err (Refused r)
timed_refused s (Err (Refused q)) r h = let z : q ≡ r = cc in ap (λ a. Err (Refused a)) z
timed_refused s (Err (OffCurve n)) r h = never (cc)
timed_refused s (Ok p) r h = never (cc)

module _ (t : Table) (y : Float) (ks : List Float) (check : Bool) where
  -- no row applies, 14 among them
  abbrev pub Passes : Type 0
  Passes = verdict_of t (stopped_uses t y ks check) ≡ Ok tt

  -- the curve's own ends, and what the inversion of the table by them answers
  abbrev pub ends : Ends
  ends = ends_of t.basis ks

  abbrev pub inversion : Result (Place × ℕ) Miss
  inversion = table_inverse_by Curve Steady t y ks check steady_limit default_precision

  abbrev flat : Bool
  flat = eq ends.low ends.high

  pub span_good : Passes → good_span t.span ≡ true
  span_good e = not-false (good_span t.span) (clear (bad_span t.span ∷ stopped_uses t y ks check) e 14)

  pub no_row : Passes → first (stopped_uses t y ks check) ≡ Ok tt
  no_row e = sym (good_verdict t (stopped_uses t y ks check) refl (span_good e)) ∙ e

  pub admits : Passes → Admitted t.basis y ks check
  admits e = admitted t.basis y ks check steady_limit default_precision (no_row e)

  numbers : Passes → (s : ℕ) → s < segments_of t.basis (length ks) → Numbers (segment_of t.basis ks s) y
  numbers e = let a = admits e in curve_numbers t.basis y ks a.long a.number a.in_range_lem

  pub low_number : Passes → T (not (is_nan ends.low))
  low_number e = (numbers e 0 (segments_some t.basis (length ks))).values nought nought_in

  pub high_number : Passes → T (not (is_nan ends.high))
  high_number e = (numbers e (segments_of t.basis (length ks) - 1) (omega (arith, segments_some t.basis (length ks)))).values one one_in

  pub depth_number : Passes → T (not (is_nan y))
  depth_number e = fails (admits e).number

  -- ---- the answer past the rows
  abbrev pub past : Result Job Miss
  past = said_of ends y inversion

  abbrev Tests : Result Job Miss → Type 0
  Tests = Tried flat (eq y ends.low) (eq y ends.high) (is_before ends y) (is_beyond ends y) inversion

  pub passed : Passes → stopped_of t y ks check ≡ past
  unfolding stopped_of
  passed e = ap (λ (v : Verdict). said_unless v past) e

  pub failed : (r : Refusal) → verdict_of t (stopped_uses t y ks check) ≡ Err r → stopped_of t y ks check ≡ Err (Refused r)
  unfolding stopped_of
  failed r e = ap (λ (v : Verdict). said_unless v past) e

  no_refusal : Passes → (r : Refusal) → inversion ≡ Err (Refused r) → ⊥
  no_refusal e r h =
      let i = inverse_by Curve Steady t.basis y ks check steady_limit default_precision in
      let w : timed_of t.span i ≡ Err (Refused r) = sym (inverse_base Curve Steady t y ks check steady_limit default_precision (span_good e)) ∙ h in
      let f = inverse_refused_only Curve Steady t.basis y ks check steady_limit default_precision r (timed_refused t.span i r w) in
      let g = first_complete rows (stopped_uses t y ks check) r f in
      let p = no_row e in
      never (cc)

  -- what each answer says
  abbrev pub Says : Result Job Miss → Type 0
  Says (Err (Refused r)) = First (bad_span t.span ∷ stopped_uses t y ks check) rows r
  Says (Err (OffCurve n)) = Passes × T (is_between ends y) × (inversion ≡ Err (OffCurve n))
  Says (Ok Flat) = Passes × T flat
  Says (Ok Before) = Passes × T (not flat) × T (is_before ends y)
  Says (Ok Start) = Passes × T (not flat) × T (eq y ends.low)
  Says (Ok (UnderWay s p)) = Passes × T (is_between ends y) × (inversion ≡ Ok (p, s))
  Says (Ok End) = Passes × T (not flat) × T (eq y ends.high)
  Says (Ok Beyond) = Passes × T (not flat) × T (is_beyond ends y)

  -- ---- it is given only where that holds
  inner : Passes → None flat (eq y ends.low) (eq y ends.high) (is_before ends y) (is_beyond ends y) inversion → T (is_between ends y)
  inner e w = nothing_else ends y refl (low_number e) (high_number e) w.0 (depth_number e) w.1 w.2 w.3 w.4

  by_tests : Passes → (z : Result Job Miss) → Tests z → Says z
  by_tests e (Err (Refused r)) w = absurd (no_refusal e r w)
  by_tests e (Err (OffCurve n)) w = (e, inner e w.0, w.1)
  by_tests e (Ok Flat) w = (e, holds w)
  by_tests e (Ok Before) w = (e, fails w.0, holds w.1)
  by_tests e (Ok Start) w = (e, fails w.0, holds w.1)
  by_tests e (Ok (UnderWay s p)) w = (e, inner e w.0, w.1)
  by_tests e (Ok End) w = (e, fails w.0, holds w.1)
  by_tests e (Ok Beyond) w = (e, fails w.0, holds w.1)

  pub said_only : (z : Result Job Miss) → z ≡ stopped_of t y ks check → Says z
  said_only z q = go (verdict_of t (stopped_uses t y ks check)) refl
    where
      go : (v : Verdict) → verdict_of t (stopped_uses t y ks check) ≡ v → Says z
      go (Ok _) e =
          by_tests e z
          (subst Tests (sym (q ∙ passed e)) (tried flat (eq y ends.low) (eq y ends.high) (is_before ends y) (is_beyond ends y) inversion))
      go (Err r) e = subst Says (sym (q ∙ failed r e)) (first_sound rows (bad_span t.span ∷ stopped_uses t y ks check) r e)

  -- ---- and everywhere there
  pub quiet : T (is_between ends y) → past ≡ between inversion
  quiet h = let w = between_alone ends y h in simp (w.0, w.1, w.2, w.3, w.4)

  beyond_past : (eq y ends.low ≡ false) × (eq y ends.high ≡ false) × (is_before ends y ≡ false) → flat ≡ false → is_beyond ends y ≡ true → past ≡ Ok Beyond
  beyond_past w f h = simp (f, w.0, w.1, w.2, h)

  before_past : (eq y ends.low ≡ false) × (eq y ends.high ≡ false) → flat ≡ false → is_before ends y ≡ true → past ≡ Ok Before
  before_past w f h = simp (f, w.0, w.1, h)

  end_past : eq y ends.low ≡ false → flat ≡ false → eq y ends.high ≡ true → past ≡ Ok End
  end_past w f h = simp (f, w, h)

  start_past : flat ≡ false → eq y ends.low ≡ true → past ≡ Ok Start
  start_past f h = simp (f, h)

  pub said_where : (z : Result Job Miss) → Says z → stopped_of t y ks check ≡ z
  said_where (Err (Refused r)) f = failed r (first_complete rows (bad_span t.span ∷ stopped_uses t y ks check) r f)
  said_where (Err (OffCurve n)) w = passed w.0 ∙ quiet w.1 ∙ ap between w.2
  said_where (Ok Flat) w = passed w.0 ∙ simp (is_true flat w.1)
  said_where (Ok Before) w =
      let f = is_false flat w.1 in
      passed w.0 ∙ before_past (before_alone ends y refl (low_number w.0) (high_number w.0) f w.2) f (is_true (is_before ends y) w.2)
  said_where (Ok Start) w = passed w.0 ∙ start_past (is_false flat w.1) (is_true (eq y ends.low) w.2)
  said_where (Ok (UnderWay s p)) w = passed w.0 ∙ quiet w.1 ∙ ap between w.2
  said_where (Ok End) w =
      let f = is_false flat w.1 in
      passed w.0 ∙ end_past (end_alone ends y refl (low_number w.0) (high_number w.0) f w.2) f (is_true (eq y ends.high) w.2)
  said_where (Ok Beyond) w =
      let f = is_false flat w.1 in
      passed w.0 ∙ beyond_past (beyond_alone ends y refl (low_number w.0) (high_number w.0) f w.2) f (is_true (is_beyond ends y) w.2)
