-- The windows stand one behind the other: the first, one window more, and all of them.
use mathlib.Core.Path.{refl, ◌∙◌}
use native.Mathlib.Omega.{arith}
use Rattle.convert.proofs.Writing.{first_window, begun, next_window, all_windows}
use Rattle.convert.proofs.output.put_windows.Goals as goal

pub loop-s-init : goal.loop-s-init
loop-s-init c = let a = c.args in (
  refl,
  begun a.m a.step a.stride a.knots.now a.out.now _ (first_window a.m a.step a.stride a.knots.now _ a.out.now _
      c.sums.ensures c.put_last.ensures),
)

pub loop-s-preserved : goal.loop-s-preserved
loop-s-preserved c = let l = c.loop-s in (
  c.put_window.auto.out ∙ l.invariant.0,
  next_window c.args.m c.args.step c.args.stride c.args.knots.now l.s _ _ _ c.requires.few l.invariant.1
      c.put_window.ensures,
)

pub returns-clause-out : goal.returns-clause-out
returns-clause-out c = let a = c.args in
    let l = c.loop-s in all_windows a.m a.step a.stride a.knots.now l.s _ _ _ _ c.requires.few (omega arith)
    (first_window a.m a.step a.stride a.knots.now _ a.out.now _ c.sums.ensures c.put_last.ensures) l.invariant.1
