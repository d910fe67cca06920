-- A case for each way out; each is the first row of the lengths that applies.
use borrow.Author.Tests.{lt-ltb, le-ltb}
use Rattle.checks.proofs.segment_length.Goals as goal

pub returns-then-n-lt4 : goal.returns-then-n-lt4
returns-then-n-lt4 c = simp (lt-ltb c.args.n 4 c.if-n-lt4.true)

pub returns-then-n-gt4 : goal.returns-then-n-gt4
returns-then-n-gt4 c = simp (le-ltb c.args.n 4 c.if-n-lt4.false, lt-ltb 4 c.args.n c.if-n-gt4.true)

pub returns : goal.returns
returns c = simp (le-ltb c.args.n 4 c.if-n-lt4.false, le-ltb 4 c.args.n c.if-n-gt4.false)
