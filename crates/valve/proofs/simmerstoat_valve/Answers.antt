-- `valve::simmerstoat_valve` meets its contract: the verdict, then the sum by the step's arm; in each arm the answer is that arm's. Assumes nothing.
use mathlib.Core.Path.{sym, ap, ◌∙◌}
use mir.Facts.{to_z-of_z}
use mir.Syntax.{w64}
use Rattle.valve.specs.Mix.{mixture_reply, sum_left}
use Rattle.valve.proofs.Refusals.{passed, is_mixed, is_refused}
use Rattle.valve.proofs.Sum.{by_four}
use borrow.Author.Rules.{rules}
use Rattle.valve.proofs.simmerstoat_valve.Goals as goal

pub row-requires : goal.row-requires
row-requires c = let a = c.args in
    let p = passed a.step a.knots.now (sym c.verdict-v.ensures ∙ c.in-Ok.is) in
    let few = p.step in
    search rules

pub weighted_sum-requires : goal.weighted_sum-requires
weighted_sum-requires c = let a = c.args in
    let p = passed a.step a.knots.now (sym c.verdict-v.ensures ∙ c.in-Ok.is) in
    record { few = c.row.ensures.few; enough = p.many; small = p.knots }

pub returns-in-Err : goal.returns-in-Err
returns-in-Err c = let a = c.args in
    let is = is_refused a.step a.knots.now _ (sym c.verdict-v.ensures ∙ c.in-Err.is) in
    record { answer = c.reply.ensures ∙ sym (ap mixture_reply is); sum = sym (ap (λ m. sum_left m a.sum.now) is) }

pub returns-in-Ok : goal.returns-in-Ok
returns-in-Ok c = let a = c.args in
    let is =
    is_mixed a.step a.knots.now (sym c.verdict-v.ensures ∙ c.in-Ok.is) in record {
      answer = sym (ap mixture_reply is);
      sum = to_z-of_z {w = w64} (record { sfits = c.weighted_sum.type_inv }) ∙ c.weighted_sum.ensures ∙ by_four a.knots.now a.step _ _ _ _ c.row.ensures
          ∙ sym (ap (λ m. sum_left m a.sum.now) is);
    }
