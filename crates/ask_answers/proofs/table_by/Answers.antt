-- The span as it is, or one second.
use mathlib.Core.Path.{refl}
use borrow.Author.Tests.{le-leb, lt-leb}
use Rattle.ask_answers.proofs.table_by.Goals as goal

pub returns-then-span-ge1 : goal.returns-then-span-ge1
returns-then-span-ge1 c = rw (le-leb 1 c.args.span c.if-span-ge1.true, c.basis_of-b.ensures) refl

pub returns : goal.returns
returns c = rw (lt-leb 1 c.args.span c.if-span-ge1.false, c.basis_of-b.ensures) refl
