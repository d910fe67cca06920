-- Room for a byte, none left, too long already: the definition's `push` in three cases.
use Rattle.std.proofs.Common.{arith}
use Rattle.lines_machine.proofs.Pushing.{push_room, push_full}
use Rattle.lines_machine.proofs.put.Goals as goal

pub returns-then-len-lt-WIDEST : goal.returns-then-len-lt-WIDEST
returns-then-len-lt-WIDEST c = push_room c.args.len c.args.byte c.args.bytes.now (omega arith) c.requires

pub returns : goal.returns
returns c = push_full c.args.len c.args.byte c.args.bytes.now (omega arith) c.requires
