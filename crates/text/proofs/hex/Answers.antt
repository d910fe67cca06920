-- The invariant: n is what the digits so far say, below 16 to the power of how many, and the digits still to come make of it what all say.
use Rattle.std.proofs.Common.{sym, ◌∙◌, arith}
use Rattle.text.proofs.Words.{value_step, value_stop, value_done, hex_is, hex_not, grow16, room16}
use Rattle.text.proofs.hex.Goals as goal

pub returns-then-s-ne16 : goal.returns-then-s-ne16
returns-then-s-ne16 c = sym (hex_not _ c.if-s-ne16.true)

pub returns-in_err-d : goal.returns-in_err-d
returns-in_err-d c = rw c.from_residual.ensures (sym (hex_is _ (omega arith) ∙ sym c.loop-b.invariant.2
    ∙ value_stop c.loop-b.n c.args.s.now c.loop-b.b-index (omega arith) c.in_err-d.ensures))

pub overflow_mul-n : goal.overflow_mul-n
overflow_mul-n c = omega (arith, room16 c.loop-b.n c.loop-b.b-index (omega arith) (omega arith))

pub overflow_add-n : goal.overflow_add-n
overflow_add-n c = omega (arith, c.in_ok-d.ensures, room16 c.loop-b.n c.loop-b.b-index (omega arith) (omega arith))

pub loop-b-preserved : goal.loop-b-preserved
loop-b-preserved c = (
  omega arith,
  grow16 _ _ _ (omega arith) c.in_ok-d.ensures.1,
  value_step c.loop-b.n _ c.args.s.now c.loop-b.b-index (omega arith) c.in_ok-d.ensures.0 (omega arith) ∙ c.loop-b.invariant.2,
)

pub returns : goal.returns
returns c = sym (hex_is _ (omega arith) ∙ sym c.loop-b.invariant.2
    ∙ value_done _ c.args.s.now c.loop-b.b-index (omega arith) (omega arith))
