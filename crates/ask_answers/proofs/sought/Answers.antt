-- A depth, or none.
use Rattle.ask_answers.proofs.Questions.{depth_few, is_sought, not_sought}
use Rattle.ask_answers.proofs.sought.Goals as goal

pub returns-in_default : goal.returns-in_default
returns-in_default c = not_sought c.depth_in.ensures c.in_default.is

pub depth-requires : goal.depth-requires
depth-requires c = depth_few c.args.s.now _ _ c.depth_in.ensures c.in-Some.is

pub returns : goal.returns
returns c = is_sought _ _ c.depth_in.ensures c.in-Some.is c.depth.ensures
