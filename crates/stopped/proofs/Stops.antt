-- What is promised of a job that is under way: its place is the inversion's, which keeps all that an inversion keeps, and since the depth is at neither end a
-- segment was entered. And the evaluations: those of that inversion, which are the curve's two ends alone wherever nothing is searched; so two tables that
-- agree there get one answer. Assumes nothing.
use Rattle.stopped.specs.declared.Job.{Job}
use Rattle.inverse_segment.specs.declared.Miss.{Miss}
use Rattle.inverse_segment.specs.Inversion.{Inversion}
use Rattle.inverse_segment.specs.declared.Miss.TheVariants.{Refused, OffCurve}
use Rattle.std.specs.Prelude.{Ok, Err, Result}
use mathlib.Core.Path.{◌≡◌, refl, sym, ap, ◌∙◌, subst}
use mathlib.Core.Logic.{inl, inr}
use mathlib.Core.Bool.{Bool, true, false, not, cond}
use mathlib.Core.List.{List}
use Prim.Native.Nat.{ℕ, ◌+◌, ◌≤◌}
use lib.Dec.{T, T_not, lit<}
use lib.ListN.{length}
use lib.Ieee.{Float}
use Rattle.basis.specs.declared.Basis.{Basis}
use Rattle.basis.specs.Basis.{segments_of}
use Rattle.doubles.proofs.Tests.{fails}
use Rattle.error.specs.Refusals.{first}
use Rattle.error.proofs.First.{never}
use Rattle.inverse.specs.Curve.{located, evaluations}
use Rattle.inverse.specs.EndRule.{EndRule, at_low, at_high, curve_rule}
use Rattle.inverse.specs.Inverse.{inverse_by, evaluations_by}
use Rattle.inverse.proofs.Facts.{Enclosed, Enclosing, GroundSays, rule_listed, none_unlisted}
use Rattle.inverse.proofs.Promises.{Promised, reply_promised}
use Rattle.inverse.proofs.Timely.{timely}
use Rattle.inverse_segment.specs.declared.Method.TheVariants.{Steady}
use Rattle.inverse_segment.specs.Method.{steady_limit}
use Rattle.inverse_segment.specs.Steady.{steady}
use Rattle.inverse_segment.proofs.Ending.{is_spent}
use Rattle.inverse_segment.proofs.Times.{default_enough}
use Rattle.inverse_segment.proofs.Timely.{NeverSpent}
use Rattle.inverse_order.specs.declared.EndsBy.TheVariants.{Curve}
use Rattle.inverse_search.specs.Bound.{bound_of}
use Rattle.inverse_segment.specs.declared.Ground.{Ground}
use Rattle.inverse_segment.specs.declared.Ground.TheVariants as G
use Rattle.inverse_segment.specs.declared.Place.{Place}
use Rattle.inverse_segment.specs.Agreed.{Agreed}
use Rattle.inverse_segment.specs.Answer.{count_told, default_precision}
use Rattle.inverse_segment.specs.Evaluations.{Evaluations}
use Rattle.spline.specs.Segment.{segment_of}
use Rattle.stopped.specs.Stopped.{said_of, stopped_uses, stopped_of}
use Rattle.stopped.proofs.Between.{is_between, between_alone, silent_between}
use Rattle.stopped.proofs.Call as call
use Rattle.stopped.proofs.Ends.{not_low, not_high}
use Rattle.stopped.proofs.Which.{Passes, ends, inversion, span_good, no_row, low_number, high_number, depth_number}
use Rattle.table.specs.Calls.{timed_of}
use Rattle.table.proofs.Spans.{inverse_base}
use Rattle.table_span.specs.declared.Table.{Table}
use Rattle.table_span.specs.Second.{elapsed, second_of}
use Rattle.table_span.proofs.Spans.{good_least}
use Rattle.table_span.proofs.Largest.{Largest, second_largest}

timed_off : (s : ℕ) (i : Inversion) (n : ℕ) → timed_of s i ≡ Err (OffCurve n) → i ≡ Err (OffCurve n)
timed_off s (Err (Refused q)) n h = never (cc)
timed_off s (Err (OffCurve m)) n h = let z : m ≡ n = cc in ap (λ a. Err (OffCurve a)) z
timed_off s (Ok p) n h = never (cc)

timed_at : (s : ℕ) (i : Inversion) (p : Place) (n : ℕ) → timed_of s i ≡ Ok (p, n) → (i ≡ Ok p) × (n ≡ second_of s p.parameter)
timed_at s (Err (Refused r)) p n h = never (cc)
timed_at s (Err (OffCurve m)) p n h = never (cc)
timed_at s (Ok q) p n h =
    let k : ◌≡◌ {A = Place × ℕ} (q, second_of s q.parameter) (p, n) = cc in
    let e : q ≡ p = ap (λ (x : Place × ℕ). x.0) k in
    let f : second_of s q.parameter ≡ n = ap (λ (x : Place × ℕ). x.1) k in
    (ap Ok e, sym f ∙ ap (λ (x : Place). second_of s x.parameter) e)

module _ (t : Table) (y : Float) (ks : List Float) (check : Bool) where
  abbrev pub b : Basis
  b = t.basis

  abbrev pub k : ℕ
  k = segments_of b (length ks)

  abbrev pub rule : EndRule
  rule = curve_rule (segment_of b ks) k

  abbrev answer : Inversion
  answer = inverse_by Curve Steady b y ks check steady_limit default_precision

  timed : Passes t y ks check → inversion t y ks check ≡ timed_of t.span answer
  timed e = inverse_base Curve Steady t y ks check steady_limit default_precision (span_good t y ks check e)

  -- the evaluations of the inversion that the call makes; where it answers by its end rule the call makes them once more
  abbrev pub listed : Evaluations
  listed = evaluations_by Curve Steady b y ks check steady_limit default_precision

  -- ---- under way: what is promised of an inversion, not for want of rounds, in a segment that was entered; few evaluations; and the second
  pub record Kept (s : ℕ) (p : Place) : Type 0 where
    pub promised : Promised Curve Steady b y ks check steady_limit default_precision (Ok p)
    pub entered : Enclosing rule.ends rule.made (segment_of b ks) k y default_precision steady_limit p
    pub not_spent : T (not (is_spent p.ground))
    pub bounded : p.count ≤ 2 + bound_of k 39
    pub second : Largest t.span (elapsed t.span p.parameter) s

  abbrev Inner : Ground → Place → Type 0
  Inner g p = Enclosed rule.ends rule.made (segment_of b ks) k y default_precision steady_limit g p

  abbrev Ground-says : Ground → Place → Type 0
  Ground-says g p = GroundSays rule.ends rule.made (segment_of b ks) k y default_precision steady_limit g p

  -- strictly between, so not by the end rule
  inner : T (is_between rule.ends y) → (g : Ground) (p : Place) → Inner g p → Ground-says g p
      → Enclosing rule.ends rule.made (segment_of b ks) k y default_precision steady_limit p
  inner w G.End p h (inl q) =
      let a = between_alone rule.ends y w in
      absurd (T_not (at_low rule.ends y) (fails (not_low rule.ends y a.1 a.3)) q.0)
  inner w G.End p h (inr q) =
      let a = between_alone rule.ends y w in
      absurd (T_not (at_high rule.ends y) (fails (not_high rule.ends y a.2 a.4)) q.1)
  inner w G.Edge p h q = h
  inner w G.Value p h q = h
  inner w G.Width p h q = h
  inner w G.Spent p h q = h

  pub under_way_kept : Passes t y ks check → T (is_between (ends t y ks check) y) → (s : ℕ) (p : Place) → inversion t y ks check ≡ Ok (p, s) → Kept s p
  under_way_kept e w s p h =
      let a = timed_at t.span answer p s (sym (timed e) ∙ h) in
      let q = reply_promised Curve Steady b y ks check steady_limit default_precision (Ok p) (sym a.0) in
      let r = timely Curve b ks steady_limit y check default_precision 39 default_enough in
      record {
        promised = q;
        entered = inner w p.ground p q.enclosed q.ground;
        not_spent = subst NeverSpent a.0 (r.0 (lit< tt));
        bounded = subst (λ (i : Inversion). count_told i ≤ 2 + bound_of k 39) a.0 r.1;
        second =
            subst (λ (n : ℕ). Largest t.span (elapsed t.span p.parameter) n) (sym a.1)
            (second_largest t.span p.parameter (good_least t.span (span_good t y ks check e)).1 q.proper.parameter);
      }

  -- ---- not on the curve: the same promises, and as few
  pub off_kept : Passes t y ks check → (n : ℕ) → inversion t y ks check ≡ Err (OffCurve n)
      → Promised Curve Steady b y ks check steady_limit default_precision (Err (OffCurve n)) × (n ≤ 2 + bound_of k 39)
  off_kept e n h =
      let a = timed_off t.span answer n (sym (timed e) ∙ h) in
      let r = timely Curve b ks steady_limit y check default_precision 39 default_enough in (
        reply_promised Curve Steady b y ks check steady_limit default_precision (Err (OffCurve n)) (sym a),
        subst (λ (i : Inversion). count_told i ≤ 2 + bound_of k 39) a r.1,
      )

  -- ---- the evaluations
  searched_list : first (stopped_uses t y ks check) ≡ Ok tt
      → listed ≡ evaluations steady rule.ends rule.made (segment_of b ks) k y default_precision steady_limit
  unfolding evaluations_by
  searched_list e = rw e refl

  -- where the depth is not strictly between: the curve's two ends
  pub two_alone : Passes t y ks check → T (not (is_between (ends t y ks check) y)) → listed ≡ rule.made
  unfolding evaluations
  two_alone e w = searched_list (no_row t y ks check e) ∙ go (at_low rule.ends y) (at_high rule.ends y) _ refl refl
    where
      go : (l h : Bool) (ev : Evaluations) → at_low rule.ends y ≡ l → at_high rule.ends y ≡ h
          → cond l rule.made (cond h rule.made ev) ≡ rule.made
      go true h ev p q = refl
      go false true ev p q = refl
      go false false ev p q =
          absurd (T_not (is_between rule.ends y) w
          (silent_between rule.ends y (low_number t y ks check e) (high_number t y ks check e) (depth_number t y ks check e) p q))

-- ---- two tables of one basis, span and length that agree at every listed evaluation
rule_same : (g h : ℕ → Float → Float) (k : ℕ) → Agreed g h (curve_rule g k).made → curve_rule g k ≡ curve_rule h k
rule_same g h k a = rw (a.0, a.1.0)

module _ (t : Table) (y : Float) (ks ls : List Float) (check : Bool) where
  abbrev past : (ℕ → Float → Float) → ℕ → Result Job Miss
  past g n =
      said_of (curve_rule g n).ends y
      (timed_of t.span (located steady (curve_rule g n).ends (curve_rule g n).made g n y default_precision steady_limit))

  pub one_answer : Passes t y ks check → Passes t y ls check → length ks ≡ length ls
      → Agreed (segment_of t.basis ks) (segment_of t.basis ls) (listed t y ks check) → stopped_of t y ks check ≡ stopped_of t y ls check
  one_answer e f long a =
      let g = segment_of t.basis ks in
      let h = segment_of t.basis ls in
      let n = segments_of t.basis (length ks) in
      let r = curve_rule g n in
      let c = subst (Agreed g h) (searched_list t y ks check (no_row t y ks check e)) a in
      let found : located steady r.ends r.made g n y default_precision steady_limit
      ≡ located steady r.ends r.made h n y default_precision steady_limit =
      none_unlisted steady r.ends r.made g n y default_precision steady_limit h c in
      let same : r ≡ curve_rule h n = rule_same g h n (rule_listed steady r.ends r.made g n y default_precision steady_limit h c) in
      sym (call.by_ends_lem t y ks check (span_good t y ks check e) (no_row t y ks check e) refl)
      ∙ ap (λ (i : Inversion). said_of r.ends y (timed_of t.span i)) found
      ∙ ap (λ (q : EndRule). said_of q.ends y (timed_of t.span (located steady q.ends q.made h n y default_precision steady_limit))) same
      ∙ ap (λ (m : ℕ). past h (segments_of t.basis m)) long
      ∙ call.by_ends_lem t y ls check (span_good t y ls check f) (no_row t y ls check f) refl
