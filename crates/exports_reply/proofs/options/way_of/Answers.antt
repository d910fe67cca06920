-- `exports_reply::options::way_of` meets its contract: an arm knows its key, and the rest that the number is neither of the two. Assumes nothing.
use Rattle.std.specs.Prelude.{None}
use mathlib.Core.Path.{sym, ap, ◌∙◌}
use mathlib.Core.List.{map}
use Prim.Native.Nat.{ℕ}
use native.Mathlib.Omega.{arith}
use lib.ListN.{get_or-eq_default}
use Rattle.exports_reply.specs.Options.{rules, method_of, way_of}
use Rattle.exports_reply.proofs.options.way_of.Goals as goal

pub returns-in-0 : goal.returns-in-0
returns-in-0 c = c.by_method.ensures ∙ ap (λ (n : ℕ). way_of n c.args.method) (sym c.in-0.is)

pub returns-in-1 : goal.returns-in-1
returns-in-1 c = c.by_method-in-1.ensures ∙ ap (λ (n : ℕ). way_of n c.args.method) (sym c.in-1.is)

pub returns-in_default : goal.returns-in_default
returns-in_default c = sym (get_or-eq_default (map (λ e. method_of e c.args.method) rules) None {n = c.args.ends}
    (omega arith))
