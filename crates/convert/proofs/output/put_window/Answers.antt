-- Where one double is written, it is the fourth of the row sums (`put_fourth`); elsewhere the four are summed and their last written.
use Rattle.convert.proofs.Writing.{put_fourth, put_sums}
use borrow.Author.Rules.{rules}
use Rattle.convert.proofs.output.put_window.Goals as goal

pub returns-then-stride-eq1 : goal.returns-then-stride-eq1
returns-then-stride-eq1 c = search (put_fourth, rules)

pub returns : goal.returns
returns c = search (put_sums, rules)
