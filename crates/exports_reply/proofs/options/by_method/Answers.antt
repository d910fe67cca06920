-- `exports_reply::options::by_method` meets its contract: an arm knows its key, and the rest that the number is none of the three. Assumes nothing.
use Rattle.std.specs.Prelude.{Some, None}
use mathlib.Core.Path.{sym, ap}
use mathlib.Core.List.{map}
use native.Mathlib.Omega.{arith}
use lib.ListN.{get_or-eq_default}
use Rattle.inverse_segment.specs.declared.Method.{Method}
use Rattle.exports_reply.specs.Options.{methods, method_of}
use Rattle.exports_reply.proofs.options.by_method.Goals as goal

pub returns-in-0 : goal.returns-in-0
returns-in-0 c = ap (method_of c.args.ends) (sym c.in-0.is)

pub returns-in-1 : goal.returns-in-1
returns-in-1 c = ap (method_of c.args.ends) (sym c.in-1.is)

pub returns-in-2 : goal.returns-in-2
returns-in-2 c = ap (method_of c.args.ends) (sym c.in-2.is)

pub returns-in_default : goal.returns-in_default
returns-in_default c = sym (get_or-eq_default (map (λ (m : Method). Some (c.args.ends, m)) methods) None {n = c.args.n}
    (omega arith))
