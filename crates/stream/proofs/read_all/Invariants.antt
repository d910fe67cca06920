-- Invariant: some bytes lead from the state at the call to the state now; a count of reads falls.
use Rattle.std.proofs.Common.{◌≡◌, length}
use Rattle.stream.specs.Stream.{Reached}
use Rattle.lines_machine.specs.Bytes.{state_at}
use Rattle.stream.proofs.read_all.Given as goal

abbrev pub invariant-loop-reads : goal.invariant-loop-reads
invariant-loop-reads g l = let m = g.M.Machine in
    m.Keeps l.m × (length l.out ≡ length l.initial.out)
    × Reached m.program (state_at l.initial.line (m.held l.initial.m)) (state_at l.line (m.held l.m))

abbrev pub decreases-loop-reads : goal.decreases-loop-reads
decreases-loop-reads g l = l.reads
