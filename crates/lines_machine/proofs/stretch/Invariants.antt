-- Invariant: the bytes passed went onto the line, and none of them ended it.
use Rattle.std.proofs.Common.{◌≡◌, ◌≤◌, length}
use Rattle.std.proofs.Math.Seq.{slice}
use Rattle.lines_machine.specs.Program.{widest}
use Rattle.lines_machine.specs.Bytes.{Grown}
use Rattle.lines_machine.specs.Contract.{open_of}
use Rattle.lines_machine.proofs.stretch.Given as goal

abbrev pub invariant-loop-i : goal.invariant-loop-i
invariant-loop-i l = (l.from ≤ l.i) × (l.i ≤ length l.chunk) × (length l.bytes ≡ widest)
    × Grown (open_of l.len l.initial.bytes) (slice l.from l.i l.chunk) (open_of l.n l.bytes)
