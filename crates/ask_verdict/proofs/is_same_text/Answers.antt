-- A byte that differs decides at once; past the last one nothing is left to compare.
use native.Mathlib.Omega.{arith}
use mathlib.Core.Path.{refl, sym, ◌∙◌}
use Rattle.ask_verdict.proofs.Words.{same_long, same_step, same_stop, same_done}
use Rattle.ask_verdict.proofs.is_same_text.Goals as goal

pub returns-then-s-w : goal.returns-then-s-w
returns-then-s-w c = sym (same_long _ _ c.if-s-w.true)

pub loop-i-init : goal.loop-i-init
loop-i-init c = (omega arith, refl)

pub returns-then-s-i : goal.returns-then-s-i
returns-then-s-i c = sym (sym c.loop-i.invariant.1 ∙ same_stop c.args.s.now c.args.w.now c.loop-i.i (omega arith) (omega arith) c.if-s-i.true)

pub loop-i-preserved : goal.loop-i-preserved
loop-i-preserved c = (
  omega arith,
  same_step c.args.s.now c.args.w.now c.loop-i.i (omega arith) (omega arith) c.if-s-i.false ∙ c.loop-i.invariant.1,
)

pub returns : goal.returns
returns c = sym (sym c.loop-i.invariant.1 ∙ same_done c.args.s.now c.args.w.now c.loop-i.i (omega arith) (omega arith) (omega arith))
