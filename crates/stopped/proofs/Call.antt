-- With a good span the rows are those of the inversion; where none applies, the table's inversion is the search's answer with its second.
-- Assumes nothing.
use Rattle.stopped.specs.declared.Job.{Job}
use Rattle.inverse_segment.specs.declared.Miss.TheVariants.{Refused}
use Rattle.inverse_segment.specs.declared.Miss.{Miss}
use Rattle.inverse_segment.specs.declared.Place.{Place}
use Rattle.inverse_segment.specs.Inversion.{Inversion}
use Rattle.std.specs.Prelude.{Ok, Err, Result, ℕ}
use mathlib.Core.Path.{◌≡◌, refl, sym, ap, ◌∙◌}
use mathlib.Core.Bool.{Bool, true, false}
use mathlib.Core.List.{List, ◌∷◌}
use lib.ListN.{length}
use lib.Ieee.{Float}
use Rattle.basis.specs.Basis.{segments_of}
use Rattle.checks.specs.Checks.{curve_length}
use Rattle.error.specs.declared.Refusal.{Refusal}
use Rattle.error.specs.declared.Refusal.TheVariants.{BadSpan}
use Rattle.error.specs.Refusals.{first}
use Rattle.inverse.specs.Curve.{located}
use Rattle.inverse.specs.EndRule.{curve_rule}
use Rattle.inverse.proofs.Verdicts.{answer_is}
use Rattle.inverse_segment.specs.declared.Method.TheVariants.{Steady}
use Rattle.inverse_segment.specs.Method.{steady_limit}
use Rattle.inverse_segment.specs.Steady.{steady}
use Rattle.inverse_order.specs.declared.EndsBy.TheVariants.{Curve}
use Rattle.inverse_segment.specs.Answer.{default_precision}
use Rattle.spline.specs.Segment.{segment_of}
use Rattle.stopped.specs.Stopped.{ends_of, said_of, stopped_uses, stopped_of}
use Rattle.table.specs.Calls.{timed_of, table_inverse_by}
use Rattle.table.proofs.Spans.{good_verdict, bad_verdict, inverse_base}
use Rattle.table_span.specs.declared.Table.{Table}
use Rattle.table_span.specs.Second.{good_span}

module _ (t : Table) (y : Float) (ks : List Float) (check : Bool) where
  pub by_row : good_span t.span ≡ true → {r : Refusal} → first (stopped_uses t y ks check) ≡ Err r → Err (Refused r) ≡ stopped_of t y ks check
  unfolding stopped_of
  by_row g e = rw (good_verdict t (stopped_uses t y ks check) refl g ∙ e) refl

  pub without_span : {r : Refusal} → good_span t.span ≡ false → Err r ≡ first ((BadSpan, true) ∷ curve_length t.basis (length ks))
      → Err (Refused r) ≡ stopped_of t y ks check
  unfolding stopped_of
  without_span {r} g e = rw (bad_verdict t (length ks) _ r g e) refl

  -- the search's answer
  abbrev there : Inversion
  there =
      located steady (ends_of t.basis ks) (curve_rule (segment_of t.basis ks) (segments_of t.basis (length ks))).made (segment_of t.basis ks)
      (segments_of t.basis (length ks)) y default_precision steady_limit

  pub by_ends_lem : good_span t.span ≡ true → first (stopped_uses t y ks check) ≡ Ok tt → {j : Result Job Miss}
      → j ≡ said_of (ends_of t.basis ks) y (timed_of t.span there) → j ≡ stopped_of t y ks check
  unfolding stopped_of
  by_ends_lem g e p =
      let same : table_inverse_by Curve Steady t y ks check steady_limit default_precision ≡ timed_of t.span there =
      inverse_base Curve Steady t y ks check steady_limit default_precision g
      ∙ ap (timed_of t.span) (sym (answer_is Curve Steady t.basis y ks check steady_limit default_precision (sym e) refl refl)) in
      p ∙ ap (λ (z : Result (Place × ℕ) Miss). said_of (ends_of t.basis ks) y z) (sym same) ∙ rw (good_verdict t (stopped_uses t y ks check) refl g ∙ e) refl
