-- A case for each direction; the scan is the callee's contract.
use mathlib.Core.Path.{sym, ap, ◌∙◌}
use mathlib.Core.Bool.{Bool}
use lib.ListN.{drop}
use Rattle.inverse_order.specs.Contract.{kept}
use Rattle.inverse_order.proofs.keeps.Goals as goal

pub returns-then-rising : goal.returns-then-rising
returns-then-rising c = c.scanned.ensures ∙ ap (λ (z : Bool). kept z (drop 1 c.args.knots.now)) (sym c.if-rising.true)

pub returns : goal.returns
returns c = c.scanned-2.ensures ∙ ap (λ (z : Bool). kept z (drop 1 c.args.knots.now)) (sym c.if-rising.false)
