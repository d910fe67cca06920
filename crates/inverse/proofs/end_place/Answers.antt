-- The place is the definition's, for every list of evaluations of that length.
use Rattle.inverse.proofs.end_place.Goals as goal

pub returns : goal.returns
returns c = λ ev l. rw l
