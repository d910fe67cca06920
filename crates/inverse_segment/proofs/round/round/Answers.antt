-- Three ways out, as in the definition: narrow, near the target, and the next round. The list of evaluations behind a count may be any.
use mathlib.Core.Path.{sym, ◌∙◌}
use native.Mathlib.Omega.{arith}
use lib.Ieee.{of_bits}
use Rattle.spline.specs.Segment.{horner_of}
use Rattle.inverse_segment.specs.Method.{rule_of}
use Rattle.inverse_segment.proofs.OneRound.{round_width, round_value, round_next}
use Rattle.inverse_segment.proofs.round.round.Goals as goal

pub returns-then-is_narrow : goal.returns-then-is_narrow
unfolding of_bits
returns-then-is_narrow c = record {
  answer = (λ limit i e d s ev k. round_width (rule_of c.args.how) (horner_of c.args.w) _ _ _ _ _ limit i s ev k
      (sym c.if-is_narrow.true ∙ c.is_narrow.ensures) c.lerp.ensures);
  repeats_after = omega arith;
  count_after = omega arith;
}

pub returns-then-magnitude-precision : goal.returns-then-magnitude-precision
returns-then-magnitude-precision c = record {
  answer = (λ limit i e d s ev k. round_value (rule_of c.args.how) (horner_of c.args.w) _ _ _ _ _ limit i s ev k
      (sym c.if-is_narrow.false ∙ c.is_narrow.ensures) (c.choose-c.ensures limit i e d) c.horner-v.ensures
      c.moved-next.ensures.answer c.magnitude.ensures c.if-magnitude-precision.true);
  repeats_after = omega arith;
  count_after = omega arith;
}

pub returns : goal.returns
returns c = record {
  answer = (λ limit i e d s ev k. round_next (rule_of c.args.how) (horner_of c.args.w) _ _ _ _ _ limit i s ev k (sym c.if-is_narrow.false ∙
      c.is_narrow.ensures) (c.choose-c.ensures limit i e d) c.horner-v.ensures c.moved-next.ensures.answer
      c.magnitude.ensures c.if-magnitude-precision.false);
  repeats_after = omega (arith, c.moved-next.ensures.repeats_after);
  count_after = omega arith;
}
