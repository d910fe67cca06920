-- By recursion on k, which falls.
use native.Mathlib.Omega.{arith}
use Rattle.picture_scale.proofs.Steps.{step_none, step_5, step_10, step_25, step_more}
use Rattle.picture_scale.proofs.+step.Goals as goal

pub returns-then-k-eq0 : goal.returns-then-k-eq0
returns-then-k-eq0 t c = record { answer = step_none _ _ c.if-k-eq0.true; positive = omega arith; divides = (λ h. omega arith); most = omega arith }

pub returns-then-r-le5 : goal.returns-then-r-le5
returns-then-r-le5 t c = record { answer = step_5 _ _ c.if-k-eq0.false (omega arith); positive = omega arith; divides = (λ h. omega arith); most = omega arith }

pub returns-then-r-le10 : goal.returns-then-r-le10
returns-then-r-le10 t c = record {
  answer = step_10 _ _ c.if-k-eq0.false (omega arith) (omega arith);
  positive = omega arith;
  divides = (λ h. omega arith);
  most = omega arith;
}

pub returns-then-r-le25 : goal.returns-then-r-le25
returns-then-r-le25 t c = record {
  answer = step_25 _ _ c.if-k-eq0.false (omega arith) (omega arith);
  positive = omega arith;
  divides = (λ h. omega arith);
  most = omega arith;
}

pub overflow_sub-k : goal.overflow_sub-k
overflow_sub-k t c = omega arith

pub step-requires : goal.step-requires
step-requires t c = (omega arith, tt)

pub overflow_mul-result : goal.overflow_mul-result
overflow_mul-result t c = omega (arith, c.step.ensures.divides (omega arith))

pub returns : goal.returns
returns t c = record {
  answer = step_more _ _ c.if-k-eq0.false (omega arith) c.step.ensures.answer;
  positive = omega (arith, c.step.ensures.positive);
  divides = (λ h. omega (arith, c.step.ensures.divides (omega arith)));
  most = omega (arith, c.step.ensures.divides (omega arith));
}
