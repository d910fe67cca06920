-- With a good span the table's value is the curve's for each basis (`spline_base`), so it is for a basis by its number; without one the
-- first row that applies is told, and nothing is written. Assumes nothing.
use Rattle.std.specs.Prelude.{Some, None, Option}
use mathlib.Core.Path.{◌≡◌, refl, sym, ap, ◌∙◌}
use Rattle.basis.specs.declared.Basis.{Basis}
use Rattle.table.specs.Calls.{table_spline_of}
use Rattle.table.proofs.Spans.{spline_base, spline_spanless}
use Rattle.exports_table.specs.Tables.{table_of}
use Rattle.exports_reply.specs.Replies.{chosen_of, chosen, no_basis, value_left, evaluated_reply}
use Rattle.exports_reply.proofs.Found.{found}
use Rattle.simmerstoat.proofs.spans.simmerstoat_table_spline.Goals as goal

same-for-each : {A : Type 0} (k : Option Basis) (d : A) (f g : Basis → A) → ((b : Basis) → f b ≡ g b) → chosen k d f ≡ chosen k d g
same-for-each (Some b) d f g same = same b
same-for-each None d f g same = refl

pub returns-then-is_span : goal.returns-then-is_span
returns-then-is_span c = let args = c.args in
    let good = sym c.is_span.ensures ∙ c.if-is_span.true in
    let k = chosen_of args.basis in
    let old = args.value.now in
    record {
      answer = c.simmerstoat_spline.ensures.answer
          ∙ same-for-each k no_basis _ (λ b. evaluated_reply (table_spline_of (table_of args.span b) args.x args.knots.now))
          (λ b. ap evaluated_reply (sym (spline_base (table_of args.span b) args.x args.knots.now good)));
      value = c.simmerstoat_spline.ensures.value ∙ same-for-each k old _ (λ b. value_left (table_spline_of (table_of args.span b) args.x args.knots.now) old)
          (λ b. ap (λ e. value_left e old) (sym (spline_base (table_of args.span b) args.x args.knots.now good)));
    }

pub returns : goal.returns
returns c = let args = c.args in
    let bad = sym c.is_span.ensures ∙ c.if-is_span.false in
    let known = c.in-Some.is in
    let basis = c.in-Some.b in
    let old = args.value.now in
    let refused = spline_spanless (table_of args.span basis) args.x args.knots.now _ bad c.without_span.ensures in record {
      answer = found no_basis (λ b. evaluated_reply (table_spline_of (table_of args.span b) args.x args.knots.now)) c.basis_of-c.ensures known
          (c.reply.ensures ∙ ap evaluated_reply refused);
      value = found old (λ b. value_left (table_spline_of (table_of args.span b) args.x args.knots.now) old) c.basis_of-c.ensures known
          (ap (λ e. value_left e old) refused);
    }
