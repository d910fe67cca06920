-- The digits say a number below 1,000; one digit stands for hundreds, two for tens, three for themselves.
use mathlib.Core.Path.{sym, ◌∙◌}
use native.Mathlib.Omega.{arith}
use Rattle.text_decimals.proofs.Digits.{number_small, behind_none, behind_one, behind_two, behind_three}
use Rattle.text_decimals.proofs.behind.Goals as goal

pub returns-in_err-f : goal.returns-in_err-f
returns-in_err-f c = rw c.from_residual.ensures (behind_none _ c.number_in.ensures c.in_err-f.was)

pub overflow_mul-result : goal.overflow_mul-result
overflow_mul-result c = omega (arith, number_small 3 _ _ (sym c.number_in.ensures ∙ c.in_ok-f.was))

pub returns-then-n-eq1 : goal.returns-then-n-eq1
returns-then-n-eq1 c = behind_one _ _ c.number_in.ensures c.in_ok-f.was c.if-n-eq1.true

pub overflow_mul-result-then-n-eq2 : goal.overflow_mul-result-then-n-eq2
overflow_mul-result-then-n-eq2 c = omega (arith, number_small 3 _ _ (sym c.number_in.ensures ∙ c.in_ok-f.was))

pub returns-then-n-eq2 : goal.returns-then-n-eq2
returns-then-n-eq2 c = behind_two _ _ c.number_in.ensures c.in_ok-f.was c.if-n-eq2.true

pub returns : goal.returns
returns c = behind_three _ _ c.number_in.ensures c.in_ok-f.was c.if-n-eq1.false
    c.if-n-eq2.false
