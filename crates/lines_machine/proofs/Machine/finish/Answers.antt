-- A line that was begun ends first.
use Rattle.std.proofs.Common.{sym, ◌∙◌}
use Rattle.lines_machine.proofs.Feeding.{end_unbegun, end_begun}
use Rattle.lines_machine.proofs.Machine.finish.Goals as goal

pub returns-then-ends_whole-clause-wrote : goal.returns-then-ends_whole-clause-wrote
returns-then-ends_whole-clause-wrote g c =
    end_unbegun g.Self.Machine.program c.args.line.now _ (sym c.ends_whole.ensures ∙ c.if-ends_whole.true) c.end.ensures.wrote

pub returns-clause-wrote : goal.returns-clause-wrote
returns-clause-wrote g c =
    let s = rw (c.said.ensures.line) at c.line-at.ensures.state in
    let w = rw (c.said.ensures.line) at c.line-at.ensures.wrote in
    end_begun g.Self.Machine.program c.args.line.now _ (sym c.ends_whole.ensures ∙ c.if-ends_whole.false) s w c.end-2.ensures.wrote
