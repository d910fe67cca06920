-- A new span where it is good; else the span stays.
use mathlib.Core.Path.{refl, sym, ap, ◌∙◌}
use Prim.Native.Nat.{ℕ, ◌*◌}
use native.Mathlib.Omega.{arith}
use Rattle.basis.specs.Basis.{segments_of}
use Rattle.ask_verdict.specs.Curve.{basis_of}
use Rattle.table_span.proofs.Spans.{good_least}
use Rattle.ask_answers.specs.Answers.{span_by}
use Rattle.ask_answers.proofs.Answers.{span_good, span_kept}
use Rattle.ask_answers.proofs.span_by.Goals as goal

pub overflow_cast-result : goal.overflow_cast-result
overflow_cast-result c = omega (arith, (good_least c.curve_seconds-t.result (sym c.is_good.ensures ∙ c.if-is_good.true)).1)

pub returns-then-is_good : goal.returns-then-is_good
returns-then-is_good c = rw c.in-Row.is (record {
  span_after = λ ks e. span_good c.args.k ks c.in-Row.m c.curve_seconds-t.result
      (c.curve_seconds-t.ensures ∙ ap (λ (x : ℕ). c.in-Row.m * segments_of (basis_of c.args.k) x) (sym e))
      c.is_good.ensures c.args.span c.if-is_good.true;
  most = (good_least c.curve_seconds-t.result (sym c.is_good.ensures ∙ c.if-is_good.true)).1;
})

pub returns-in-Table : goal.returns-in-Table
unfolding span_by
returns-in-Table c = rw c.in-Table.is (record { span_after = λ ks e. refl; most = c.requires.span })

pub returns-else-is_good : goal.returns-else-is_good
returns-else-is_good c = rw c.in-Row.is (record {
  span_after = λ ks e. span_kept c.args.k ks c.in-Row.m c.curve_seconds-t.result
      (c.curve_seconds-t.ensures ∙ ap (λ (x : ℕ). c.in-Row.m * segments_of (basis_of c.args.k) x) (sym e))
      c.is_good.ensures c.args.span c.if-is_good.false;
  most = c.requires.span;
})

pub returns-in-Find : goal.returns-in-Find
unfolding span_by
returns-in-Find c = rw c.in-Find.is (record { span_after = λ ks e. refl; most = c.requires.span })

pub returns-in-At : goal.returns-in-At
unfolding span_by
returns-in-At c = rw c.in-At.is (record { span_after = λ ks e. refl; most = c.requires.span })

pub returns-in-Every : goal.returns-in-Every
unfolding span_by
returns-in-Every c = rw c.in-Every.is (record { span_after = λ ks e. refl; most = c.requires.span })

pub returns-in-Nothing : goal.returns-in-Nothing
unfolding span_by
returns-in-Nothing c = rw c.in-Nothing.is (record { span_after = λ ks e. refl; most = c.requires.span })
