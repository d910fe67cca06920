-- `valve::mix` meets its contract: the verdict, then the sum by the row of the flat table. Assumes nothing.
use Rattle.error.proofs.Exits.{exit}
use Rattle.std.specs.Prelude.{Ok}
use mathlib.Core.Path.{sym, ap, ◌∙◌}
use mir.Facts.{to_z-of_z}
use mir.Syntax.{w64}
use Rattle.valve.proofs.Refusals.{passed, is_mixed, is_refused}
use Rattle.valve.proofs.Sum.{by_four}
use Rattle.valve.proofs.mix.Goals as goal

pub row-requires : goal.row-requires
row-requires c = let a = c.args in
    let p = passed a.step a.knots.now (sym c.verdict.ensures ∙ c.in_ok-verdict.was) in
    p.step

pub weighted_sum-requires : goal.weighted_sum-requires
weighted_sum-requires c = let a = c.args in
    let p = passed a.step a.knots.now (sym c.verdict.ensures ∙ c.in_ok-verdict.was) in
    record { few = c.row.ensures.few; enough = p.many; small = p.knots }

pub returns-in_err-verdict : goal.returns-in_err-verdict
returns-in_err-verdict c = exit _ _ c.from_residual.ensures.1 ∙ (let a = c.args in
    sym (is_refused a.step a.knots.now _ (sym c.verdict.ensures ∙ c.in_err-verdict.was)))

pub returns : goal.returns
returns c = let a = c.args in
    ap Ok
    (to_z-of_z {w = w64} (record { sfits = c.weighted_sum.type_inv }) ∙ c.weighted_sum.ensures ∙ by_four a.knots.now a.step _ _ _ _ c.row.ensures)
    ∙ sym (is_mixed a.step a.knots.now (sym c.verdict.ensures ∙ c.in_ok-verdict.was))
