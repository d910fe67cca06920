-- Invariant: the bytes passed went onto the line, and none of them ended it.
use Rattle.std.proofs.Common.{arith}
use Rattle.lines_machine.specs.Contract.{open_of}
use Rattle.lines_machine.proofs.Feeding.{stretch_more}
use Rattle.lines_machine.proofs.stretch.Goals as goal

pub loop-i-preserved : goal.loop-i-preserved
loop-i-preserved c = let a = c.args in
    let l = c.loop-i in (
      omega arith,
      omega arith,
      omega arith,
      stretch_more a.chunk.now a.from l.i (open_of a.len a.bytes.now) (open_of l.n l.bytes) _ l.invariant.0 (omega arith) l.invariant.3
          c.if-b-eq10.false c.put-n.ensures,
    )
