-- With a point both parts must be good (`no_whole`, `no_rest`, `with_point`); without one the whole part alone.
use mathlib.Core.Path.{sym, ◌∙◌}
use native.Mathlib.Omega.{arith}
use Rattle.text_decimals.proofs.Digits.{number_small, behind_small, no_whole, no_rest, with_point, plain_none, plain}
use Rattle.text_decimals.proofs.thousandths.Goals as goal

pub returns-in_err-w : goal.returns-in_err-w
returns-in_err-w c = rw c.from_residual.ensures
    (no_whole _ _ c.place_of-p.ensures.answer (omega arith) c.number_in.ensures c.in_err-w.was)

pub returns-in_err-f : goal.returns-in_err-f
returns-in_err-f c = rw c.from_residual-in_err-f.ensures
    (no_rest _ _ c.place_of-p.ensures.answer (omega arith) c.number_in.ensures c.in_ok-w.was c.behind.ensures c.in_err-f.was)

pub overflow_mul-result : goal.overflow_mul-result
overflow_mul-result c = omega (
  arith,
  number_small 9 _ _ (sym c.number_in.ensures
      ∙ c.in_ok-w.was),
)

pub overflow_add-result : goal.overflow_add-result
overflow_add-result c = omega (
  arith,
  number_small 9 _ _ (sym c.number_in.ensures
      ∙ c.in_ok-w.was),
  behind_small _ _ (sym c.behind.ensures ∙ c.in_ok-f.was),
)

pub returns-then-p-s : goal.returns-then-p-s
returns-then-p-s c = with_point _ _ c.place_of-p.ensures.answer (omega arith)
    c.number_in.ensures
    c.in_ok-w.was c.behind.ensures c.in_ok-f.was

pub returns-in_err-w-2 : goal.returns-in_err-w-2
returns-in_err-w-2 c = rw c.from_residual-in_err-w-2.ensures
    (plain_none _ _ c.place_of-p.ensures.answer (omega arith) c.number_in-2.ensures c.in_err-w-2.was)

pub overflow_mul-result-2 : goal.overflow_mul-result-2
overflow_mul-result-2 c = omega (arith, number_small 9 _ _ (sym c.number_in-2.ensures ∙ c.in_ok-w-2.was))

pub returns : goal.returns
returns c = plain _ _ c.place_of-p.ensures.answer (omega arith) c.number_in-2.ensures
    c.in_ok-w-2.was
