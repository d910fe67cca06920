-- `exports_reply::basis_of` meets its contract: an arm knows its key, and the rest that the number is none of the six.
use Rattle.std.specs.Prelude.{Some, None}
use mathlib.Core.Path.{sym, ap}
use mathlib.Core.List.{map}
use native.Mathlib.Omega.{arith}
use lib.ListN.{get_or-eq_default}
use Rattle.exports_reply.specs.Replies.{bases, chosen_of}
use Rattle.exports_reply.proofs.basis_of.Goals as goal

pub returns-in-0 : goal.returns-in-0
returns-in-0 c = ap chosen_of (sym c.in-0.is)

pub returns-in-1 : goal.returns-in-1
returns-in-1 c = ap chosen_of (sym c.in-1.is)

pub returns-in-2 : goal.returns-in-2
returns-in-2 c = ap chosen_of (sym c.in-2.is)

pub returns-in-3 : goal.returns-in-3
returns-in-3 c = ap chosen_of (sym c.in-3.is)

pub returns-in-4 : goal.returns-in-4
returns-in-4 c = ap chosen_of (sym c.in-4.is)

pub returns-in-5 : goal.returns-in-5
returns-in-5 c = ap chosen_of (sym c.in-5.is)

pub returns-in_default : goal.returns-in_default
returns-in_default c = sym (get_or-eq_default (map Some bases) None {n = c.args.n} (omega arith))
