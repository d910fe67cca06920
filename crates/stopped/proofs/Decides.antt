-- With a good span what the inversion answers decides: where it answered by its end rule no row applies, and what is said goes by the ends; elsewhere the end
-- rule is silent, so that the depth is strictly between, or a row applies. Assumes nothing.
use Rattle.stopped.specs.declared.Job.{Job}
use Rattle.inverse_segment.specs.declared.Miss.{Miss}
use Rattle.inverse_segment.specs.declared.Place.{Place}
use Rattle.inverse_segment.specs.Inversion.{Inversion}
use Rattle.inverse_segment.specs.declared.Miss.TheVariants.{Refused}
use Rattle.std.specs.Prelude.{Ok, Err, Result, ℕ}
use mathlib.Core.Path.{◌≡◌, refl, sym, ap, ◌∙◌, subst}
use mathlib.Core.Bool.{Bool, true, false, cond}
use mathlib.Core.List.{List}
use Prim.Native.Nat.{ℕ, ◌-◌}
use lib.Dec.{T}
use lib.ListN.{length}
use lib.Ieee.{Float}
use Rattle.basis.specs.Basis.{segments_of}
use Rattle.doubles.specs.Numbers.{nought, one}
use Rattle.error.specs.Refusals.{first, Verdict}
use Rattle.error.proofs.First.{never}
use Rattle.inverse.specs.declared.Ends.{Ends}
use Rattle.inverse.specs.Curve.{ended, located}
use Rattle.inverse.specs.EndRule.{EndRule, at_low, at_high, curve_rule}
use Rattle.inverse.specs.Inverse.{inverse_by}
use Rattle.inverse_order.specs.declared.EndsBy.{EndsBy}
use Rattle.inverse_order.specs.declared.EndsBy.TheVariants.{Curve}
use Rattle.inverse_segment.specs.declared.Method.TheVariants.{Steady}
use Rattle.inverse_segment.specs.Answer.{inverted, default_precision}
use Rattle.inverse_segment.specs.Evaluations.{Evaluations}
use Rattle.inverse_segment.specs.Method.{steady_limit}
use Rattle.inverse_segment.specs.Round.{Rule}
use Rattle.inverse_segment.specs.Steady.{steady}
use Rattle.spline.specs.Segment.{segment_of}
use Rattle.stopped.specs.Contract.{by_end}
use Rattle.stopped.specs.Stopped.{ends_of, between, said_of, stopped_uses, stopped_of}
use Rattle.stopped.proofs.Between.{is_between, silent_between}
use Rattle.stopped.proofs.Call.{by_row}
use Rattle.stopped.proofs.Which.{Passes, ends, inversion, low_number, high_number, depth_number, passed, quiet}
use Rattle.table.specs.Calls.{timed_of}
use Rattle.table.proofs.Spans.{good_verdict, inverse_base}
use Rattle.table_span.specs.declared.Table.{Table}
use Rattle.table_span.specs.Second.{good_span}

-- an answer that is not by the end rule: the end rule is silent
silent : (R : Rule) (e : Ends) (ev : Evaluations) (g : ℕ → Float → Float) (k : ℕ) (y ε : Float) (limit : ℕ) → by_end (located R e ev g k y ε limit) ≡ false
    → (at_low e y ≡ false) × (at_high e y ≡ false)
unfolding located
silent R e ev g k y ε limit = go (at_low e y) (at_high e y) _
  where
    go : (l h : Bool) (i : Inversion) → by_end (cond l (ended ev 0 nought) (cond h (ended ev (k - 1) one) i)) ≡ false → (l ≡ false) × (h ≡ false)
    go true h i q = never (cc)
    go false true i q = never (cc)
    go false false i q = (refl, refl)

-- an inversion that answered by its end rule, whichever that is, was refused by no row
pub no_row_applies : (m : EndsBy) (t : Table) (y : Float) (ks : List Float) (check : Bool) {i : Inversion}
    → i ≡ inverse_by m Steady t.basis y ks check steady_limit default_precision → by_end i ≡ true → first (stopped_uses t y ks check) ≡ Ok tt
unfolding inverse_by
no_row_applies m t y ks check {i} q h = go (first (stopped_uses t y ks check)) refl _ q
  where
    go : (v : Verdict) → first (stopped_uses t y ks check) ≡ v → (x : Inversion) → i ≡ inverted (first (stopped_uses t y ks check)) x
        → first (stopped_uses t y ks check) ≡ Ok tt
    go (Ok _) e x w = e
    go (Err r) e x w =
        let z : by_end (Err (Refused r)) ≡ true = subst (λ (a : Inversion). by_end a ≡ true) (w ∙ ap (λ (v : Verdict). inverted v x) e) h in
        never (cc)

module _ (t : Table) (y : Float) (ks : List Float) (check : Bool) (g : good_span t.span ≡ true) {i : Inversion}
    (q : i ≡ inverse_by Curve Steady t.basis y ks check steady_limit default_precision) where
  abbrev rule : EndRule
  rule = curve_rule (segment_of t.basis ks) (segments_of t.basis (length ks))

  abbrev answer : Inversion
  answer =
      located steady rule.ends rule.made (segment_of t.basis ks) (segments_of t.basis (length ks)) y default_precision steady_limit

  by_verdict : i ≡ inverted (first (stopped_uses t y ks check)) answer
  unfolding inverse_by
  by_verdict = q

  told : inversion t y ks check ≡ timed_of t.span i
  told = inverse_base Curve Steady t y ks check steady_limit default_precision g ∙ ap (timed_of t.span) (sym q)

  passes : first (stopped_uses t y ks check) ≡ Ok tt → Passes t y ks check
  passes e = good_verdict t (stopped_uses t y ks check) refl g ∙ e

  -- ---- by the end rule
  pub at_ends : by_end i ≡ true → {j : Result Job Miss} → j ≡ said_of (ends_of t.basis ks) y (timed_of t.span i) → j ≡ stopped_of t y ks check
  at_ends h p =
      p ∙ ap (λ (x : Result (Place × ℕ) Miss). said_of (ends_of t.basis ks) y x) (sym told)
      ∙ sym (passed t y ks check (passes (no_row_applies Curve t y ks check q h)))

  -- ---- not by the end rule
  inside : first (stopped_uses t y ks check) ≡ Ok tt → by_end i ≡ false → T (is_between (ends t y ks check) y)
  inside e h =
      let w : i ≡ answer = by_verdict ∙ ap (λ (v : Verdict). inverted v answer) e in
      let s =
      silent steady rule.ends rule.made (segment_of t.basis ks) (segments_of t.basis (length ks)) y default_precision steady_limit
      (subst (λ (a : Inversion). by_end a ≡ false) w h) in
      let f = passes e in
      silent_between rule.ends y (low_number t y ks check f) (high_number t y ks check f) (depth_number t y ks check f) s.0 s.1

  pub elsewhere : by_end i ≡ false → {j : Result Job Miss} → j ≡ between (timed_of t.span i) → j ≡ stopped_of t y ks check
  elsewhere h {j} p = go (first (stopped_uses t y ks check)) refl
    where
      go : (v : Verdict) → first (stopped_uses t y ks check) ≡ v → j ≡ stopped_of t y ks check
      go (Ok _) e = p ∙ ap between (sym told) ∙ sym (quiet t y ks check (inside e h)) ∙ sym (passed t y ks check (passes e))
      go (Err r) e =
          let w : i ≡ Err (Refused r) = by_verdict ∙ ap (λ (v : Verdict). inverted v answer) e in
          p ∙ ap (λ (a : Inversion). between (timed_of t.span a)) w ∙ by_row t y ks check g e
