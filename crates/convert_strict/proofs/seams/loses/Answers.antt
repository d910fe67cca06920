-- One lemma for each way through the tests. Assumes nothing.
use mathlib.Core.Path.{sym, ◌∙◌}
use native.Mathlib.Omega.{arith}
use Rattle.convert_strict.proofs.Scan.{yes_11, yes_12, yes_13, yes_21, yes_22, yes_31, none_4}
use Rattle.convert_strict.proofs.seams.loses.Goals as goal

pub returns-then-is_apart : goal.returns-then-is_apart
returns-then-is_apart c = let a = c.args in
    yes_11 a.allowance a.w a.h a.stride c.if-stride-eq1.true (sym c.is_apart.ensures ∙ c.if-is_apart.true)

pub returns-then-is_apart-2 : goal.returns-then-is_apart-2
returns-then-is_apart-2 c = let a = c.args in
    yes_12 a.allowance a.w a.h a.stride c.if-stride-eq1.true
    (sym c.is_apart.ensures ∙ c.if-is_apart.false) (sym c.is_apart-then-stride-eq1.ensures ∙ c.if-is_apart-2.true)

pub returns-then-stride-eq1 : goal.returns-then-stride-eq1
returns-then-stride-eq1 c = let a = c.args in
    yes_13 a.allowance a.w a.h a.stride c.if-stride-eq1.true
    (sym c.is_apart.ensures ∙ c.if-is_apart.false)
    (sym c.is_apart-then-stride-eq1.ensures ∙ c.if-is_apart-2.false) c.is_apart-then-stride-eq1-2.ensures

pub returns-then-is_apart-3 : goal.returns-then-is_apart-3
returns-then-is_apart-3 c = let a = c.args in
    yes_21 a.allowance a.w a.h a.stride c.if-stride-eq2.true (sym c.is_apart-then-stride-eq2.ensures ∙ c.if-is_apart-3.true)

pub returns-then-stride-eq2 : goal.returns-then-stride-eq2
returns-then-stride-eq2 c = let a = c.args in
    yes_22 a.allowance a.w a.h a.stride c.if-stride-eq2.true
    (sym c.is_apart-then-stride-eq2.ensures ∙ c.if-is_apart-3.false) c.is_apart-then-stride-eq2-2.ensures

pub returns-then-stride-eq3 : goal.returns-then-stride-eq3
returns-then-stride-eq3 c = let a = c.args in
    yes_31 a.allowance a.w a.h a.stride c.if-stride-eq3.true c.is_apart-then-stride-eq3.ensures

pub returns : goal.returns
returns c = let a = c.args in
    none_4 a.allowance a.w a.h a.stride (omega (arith, c.if-stride-eq3.false, c.if-stride-eq2.false, c.if-stride-eq1.false))
