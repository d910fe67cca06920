-- The curve after the record, the targets after it and the fault after it are each the definition's.
use Rattle.picture.proofs.Steps.{drawn_so}
use Rattle.lines_machine.specs.Contract.{said_of}
use Rattle.picture_finds.specs.Contract.{targets_of}
use Rattle.picture.proofs.line.Goals as goal

pub returns : goal.returns
returns c = let a = c.args in record {
  state = drawn_so (said_of a.line) (targets_of a.h.now.finds) a.h.now.fault c.said-r.ensures
      c.taken-a.ensures c.finds_after-h.ensures
      c.fault_after-h.ensures;
  few = c.taken-a.ensures.few;
}
