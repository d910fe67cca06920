-- A case for each way out; each is the first row of the lengths that applies.
use mathlib.Core.Path.{sym, ◌∙◌}
use borrow.Author.Tests.{lt-ltb, le-ltb}
use Rattle.checks.proofs.curve_length.Goals as goal

pub returns-then-n-lt4 : goal.returns-then-n-lt4
returns-then-n-lt4 c = simp (lt-ltb c.args.n 4 c.if-n-lt4.true)

pub returns-then-not-is_regular : goal.returns-then-not-is_regular
returns-then-not-is_regular c = let n = c.args.n in
    simp (le-ltb n 4 c.if-n-lt4.false, sym c.is_regular.ensures ∙ c.if-not-is_regular.true)

pub returns-then-n-gt-MOST_KNOTS : goal.returns-then-n-gt-MOST_KNOTS
returns-then-n-gt-MOST_KNOTS c = let n = c.args.n in
    simp (le-ltb n 4 c.if-n-lt4.false, sym c.is_regular.ensures ∙ c.if-not-is_regular.false, lt-ltb 4096 n c.if-n-gt-MOST_KNOTS.true)

pub returns : goal.returns
returns c = let n = c.args.n in
    simp (le-ltb n 4 c.if-n-lt4.false, sym c.is_regular.ensures ∙ c.if-not-is_regular.false, le-ltb 4096 n c.if-n-gt-MOST_KNOTS.false)
