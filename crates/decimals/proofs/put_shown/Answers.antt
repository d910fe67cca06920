-- A line that is whole, or too long.
use Rattle.std.proofs.Common.{arith, rules}
use Rattle.text.specs.Text.{dec_text}
use Rattle.text.proofs.Pens.{within}
use Rattle.lines_machine.specs.Contract.{said_of, Fits}
use Rattle.decimals.specs.Decimals.{shown_line}
use Rattle.decimals.proofs.put_shown.Goals as goal

pub returns-in-Some : goal.returns-in-Some
unfolding shown_line
returns-in-Some c = let f = rw (c.in-Some.is) at c.requires.fits in rw c.in-Some.is (within 129 c.put_line.ensures (omega (arith, f)))

pub returns-in-None : goal.returns-in-None
unfolding shown_line dec_text
returns-in-None c = rw c.in-None.is (within 129 c.word.ensures (omega arith))
