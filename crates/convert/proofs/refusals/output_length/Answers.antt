-- The product fits because there are at most 4,096 knots and a step is at most 4; `output_steps` names the steps.
use native.Mathlib.Omega.{arith}
use Rattle.convert.proofs.Verdicts.{few_steps, output_steps}
use Rattle.convert.proofs.refusals.output_length.Goals as goal

pub overflow_mul-result : goal.overflow_mul-result
overflow_mul-result c = omega (arith, few_steps c.args.n c.step.result c.step-2.result c.requires.most c.step-2.ensures.most)

pub overflow_add-result : goal.overflow_add-result
overflow_add-result c = omega (arith, few_steps c.args.n c.step.result c.step-2.result c.requires.most c.step-2.ensures.most)

pub returns : goal.returns
returns c = let a = c.args in output_steps a.from a.to _ _ _ c.step.ensures.answer c.step-2.ensures.answer
