-- Invariant: what is left of the chunk leads to where all of it does; each pass takes one byte or more.
use Rattle.std.proofs.Common.{◌≡◌, length}
use Rattle.lines_machine.specs.Bytes.{state_at, ran_of}
use Rattle.stream.proofs.feed_all.Given as goal

abbrev pub invariant-loop-rest : goal.invariant-loop-rest
invariant-loop-rest g l = let m = g.M.Machine in
    m.Keeps l.m × (length l.out ≡ length l.initial.out)
    × (ran_of m.program (state_at l.line (m.held l.m)) l.rest ≡ ran_of m.program (state_at l.initial.line (m.held l.initial.m)) l.chunk)

abbrev pub decreases-loop-rest : goal.decreases-loop-rest
decreases-loop-rest g l = length l.rest
