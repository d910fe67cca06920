-- Invariant: some bytes lead from the state at the call to the state now; a count of reads falls.
use Rattle.std.proofs.Common.{rules, ◌≡◌, length}
use Rattle.stream.proofs.Reading.{reached_at_once, reached_on}
use Rattle.stream.proofs.read_all.Goals as goal

pub loop-reads-init : goal.loop-reads-init
loop-reads-init g c = (search rules, search rules, reached_at_once g.M.Machine.program _)

pub returns-in_err-feed_all-clause-state : goal.returns-in_err-feed_all-clause-state
returns-in_err-feed_all-clause-state g c = reached_on g.M.Machine.program _ c.loop-reads.invariant.2 c.feed_all.ensures.state

pub loop-reads-preserved : goal.loop-reads-preserved
loop-reads-preserved g c =
    (c.feed_all.ensures.kept, search rules, reached_on g.M.Machine.program _ c.loop-reads.invariant.2 c.feed_all.ensures.state)
