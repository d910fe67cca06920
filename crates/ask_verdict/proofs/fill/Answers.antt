-- Invariant: the knots passed are written.
use mathlib.Core.Path.{◌≡◌, refl}
use lib.ListN.{length}
use Rattle.whole.proofs.Held.{small_at}
use Rattle.turns_back.specs.Call as turns
use Rattle.ask_verdict.proofs.Doubles.{fill_on, filled}
use native.Mathlib.Omega.{arith}
use borrow.Author.Rules.{rules}
use Rattle.ask_verdict.proofs.fill.Goals as goal

pub loop-i-init : goal.loop-i-init
loop-i-init c = (refl, refl)

pub double_of-requires : goal.double_of-requires
double_of-requires c = small_at turns.most c.args.whole.now c.requires.small c.loop-i.i (omega (arith, c.loop-i-test.true))

pub loop-i-preserved : goal.loop-i-preserved
loop-i-preserved c = (
  search rules,
  fill_on c.args.whole.now c.loop-i.knots c.loop-i.i (omega
      (arith, c.loop-i-test.true)) (omega (arith, c.loop-i-test.true, c.loop-i.invariant.0, c.requires.few))
      c.loop-i.invariant.1 c.double_of.ensures,
)

pub returns : goal.returns
returns c = let e : c.loop-i.i ≡ length c.args.whole.now = omega arith in
    record { knots = filled c.args.whole.now c.loop-i.knots (rw e at c.loop-i.invariant.1); long = c.loop-i.invariant.0 }
