-- Invariant: the bytes passed were fed, and the text in hand fits; it stops where `out` may not hold a further line's text.
use Rattle.std.proofs.Common.{length, ◌-◌, ◌≡◌, ◌≤◌, ◌<◌, take, ◌^◌}
use Rattle.lines_machine.specs.Bytes.{state_at}
use Rattle.lines_machine.specs.Contract.{Fed}
use Rattle.lines_machine.proofs.Machine.feed.Given as goal

abbrev pub invariant-loop-i : goal.invariant-loop-i
invariant-loop-i g l = let m = g.Self.Machine in
    (l.i ≤ length l.chunk) × (l.at ≤ length l.out) × (l.i ≡ 0 → l.at ≡ 0)
    × Fed m.program (state_at l.initial.line (m.held l.initial.self)) (take l.i l.chunk) (state_at l.line (m.held l.self)) l.initial.out 0 l.out l.at
    × m.Keeps l.self × (length l.chunk < 2 ^ 64)

abbrev pub decreases-loop-i : goal.decreases-loop-i
decreases-loop-i g l = length l.chunk - l.i
