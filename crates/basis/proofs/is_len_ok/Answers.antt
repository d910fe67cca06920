-- Below 4 knots the definition's first test fails; from 4 on what is left of it is the callee's contract.
use borrow.Author.Tests.{lt-leb, le-leb}
use Rattle.basis.proofs.is_len_ok.Goals as goal

pub returns-then-n-lt4 : goal.returns-then-n-lt4
returns-then-n-lt4 c = simp (lt-leb 4 c.args.n c.if-n-lt4.true)

pub returns : goal.returns
returns c = simp (le-leb 4 c.args.n c.if-n-lt4.false, c.is_regular.ensures)
