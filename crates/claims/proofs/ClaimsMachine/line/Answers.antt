-- A record is answered as in a listing; a claim is checked, and leaves the table as it is.
use Rattle.std.proofs.Common.{arith}
use Rattle.text.proofs.Pens.{lands}
use Rattle.lines_machine.specs.Contract.{said_of}
use Rattle.claims.proofs.Saying.{listed_leaves, listed_wrote, claim_leaves, claim_tells}
use Rattle.claims.proofs.ClaimsMachine.line.Goals as goal

pub returns-in-Listed-clause-state : goal.returns-in-Listed-clause-state
returns-in-Listed-clause-state c = listed_leaves _ (said_of c.args.line) c.said_of.ensures c.in-Listed.is c.answered.ensures.state

pub returns-in-Listed-clause-wrote : goal.returns-in-Listed-clause-wrote
returns-in-Listed-clause-wrote c = listed_wrote _ (said_of c.args.line) c.said_of.ensures c.in-Listed.is c.answered.ensures.wrote

pub returns-in-Claim-clause-state : goal.returns-in-Claim-clause-state
returns-in-Claim-clause-state c = claim_leaves _ (said_of c.args.line) c.said_of.ensures c.in-Claim.is

pub returns-in-Claim-clause-wrote : goal.returns-in-Claim-clause-wrote
returns-in-Claim-clause-wrote c = rw (← claim_tells _ (said_of c.args.line) c.said_of.ensures c.in-Claim.is) (grind (arith, lands))
