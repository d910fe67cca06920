-- Invariant: what is left of the chunk leads to where all of it does; each pass takes one byte or more.
use Rattle.std.proofs.Common.{rules, ◌∙◌, ◌≡◌, arith, length}
use Rattle.lines_machine.proofs.Feeding.{ran_rest, ran_end}
use Rattle.stream.proofs.feed_all.Goals as goal

pub loop-rest-preserved : goal.loop-rest-preserved
loop-rest-preserved g c = (
  c.feed-taken.ensures.kept,
  omega arith,
  ran_rest g.M.Machine.program c.loop-rest.rest.now _ c.feed-taken.ensures.fed ∙ c.loop-rest.invariant.2,
)

pub returns-clause-state : goal.returns-clause-state
returns-clause-state g c =
    let e : length c.loop-rest.rest.now ≡ 0 = search rules in
    ran_end g.M.Machine.program _ c.loop-rest.rest.now e ∙ c.loop-rest.invariant.2
