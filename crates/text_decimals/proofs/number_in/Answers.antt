-- The invariant: n is what the digits so far say, below 10 to the power of how many, and the digits still to come make of it what all say.
use Rattle.std.proofs.Common.{sym, ◌∙◌, arith, eqb-true}
use Rattle.std.proofs.lemmas.Bool.{eqb-false}
use Rattle.text_decimals.proofs.Digits.{digits_step, digits_stop, digits_done, number_short, number_long, number_is, grow10, room10}
use Rattle.text_decimals.proofs.number_in.Goals as goal
use Rattle.text_decimals.proofs.number_in.Goals.{then-is_empty-via-then-is_empty, then-is_empty-via-else-is_empty+then-most-s}

pub returns-then-is_empty : goal.returns-then-is_empty
returns-then-is_empty c =
    elim c.then-is_empty.branch [
      | then-is_empty-via-then-is_empty w ↦ number_short _ _ (omega (arith, eqb-true _ _ (sym c.is_empty.ensures ∙ w.if-is_empty.true)))
      | then-is_empty-via-else-is_empty+then-most-s w ↦ number_long _ _ (omega (arith, eqb-false _ _ (sym c.is_empty.ensures ∙ w.if-is_empty.false)))
          (omega arith)
    ]

pub returns-in_err-d : goal.returns-in_err-d
returns-in_err-d c = rw c.from_residual.ensures (sym (number_is _ _ (omega arith) (omega arith) ∙ sym c.loop-b.invariant.4
    ∙ digits_stop c.loop-b.n c.args.s.now c.loop-b.b-index (omega arith) c.in_err-d.ensures))

pub overflow_mul-n : goal.overflow_mul-n
overflow_mul-n c = omega (arith, room10 c.loop-b.n c.loop-b.b-index (omega arith) (omega arith))

pub overflow_add-n : goal.overflow_add-n
overflow_add-n c = omega (arith, c.in_ok-d.ensures, room10 c.loop-b.n c.loop-b.b-index (omega arith) (omega arith))

pub loop-b-preserved : goal.loop-b-preserved
loop-b-preserved c = (
  omega arith,
  omega arith,
  omega arith,
  grow10 _ _ _ (omega arith) c.in_ok-d.ensures.1,
  digits_step c.loop-b.n _ c.args.s.now c.loop-b.b-index (omega arith) c.in_ok-d.ensures.0 (omega arith) ∙ c.loop-b.invariant.4,
)

pub returns : goal.returns
returns c = sym (number_is _ _ (omega arith) (omega arith) ∙ sym c.loop-b.invariant.4
    ∙ digits_done _ c.args.s.now c.loop-b.b-index (omega arith) (omega arith))
