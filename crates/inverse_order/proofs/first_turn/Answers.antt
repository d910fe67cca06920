-- The invariant: no step before i turns back, so the first that does is looked for from i on.
use Rattle.std.proofs.Common.{refl, sym, ◌∙◌, arith}
use Rattle.inverse_order.proofs.TurnsBack.{turn_later, turn_here, turn_none}
use Rattle.inverse_order.proofs.first_turn.Goals as goal

pub loop-i-init : goal.loop-i-init
loop-i-init c = refl

pub returns-then-lies_before : goal.returns-then-lies_before
returns-then-lies_before c = (
  sym (turn_here c.args.rising c.args.knots.now c.loop-i.i (omega arith) (sym c.lies_before.ensures ∙ c.if-lies_before.true)) ∙ c.loop-i.invariant,
  omega arith,
)

pub loop-i-preserved : goal.loop-i-preserved
loop-i-preserved c =
    sym (turn_later c.args.rising c.args.knots.now c.loop-i.i (omega arith) (sym c.lies_before.ensures ∙ c.if-lies_before.false)) ∙ c.loop-i.invariant

pub returns : goal.returns
returns c = sym c.loop-i.invariant ∙ turn_none c.args.rising c.args.knots.now c.loop-i.i (omega arith) ∙ omega arith
